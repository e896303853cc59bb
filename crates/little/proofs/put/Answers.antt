use Rattle.little.proofs.LittleLaws as laws
use Rattle.little.proofs.put.Goals as goal

pub returns-in-U8 : goal.returns-in-U8
returns-in-U8 c = rw c.in-U8.is (laws.put_one c.args.out.now c.args.at c.args.value c.lowest.ensures c.put_byte.ensures)

pub returns-in-U16 : goal.returns-in-U16
returns-in-U16 c = rw c.in-U16.is c.put_u16.ensures

pub returns-in-U32 : goal.returns-in-U32
returns-in-U32 c = rw c.in-U32.is c.put_u32.ensures

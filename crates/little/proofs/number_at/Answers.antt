use Rattle.little.proofs.LittleLaws as laws
use mathlib.Core.Path.{◌∙◌, sym}
use Rattle.little.proofs.number_at.Goals as goal

pub returns-in-U8 : goal.returns-in-U8
returns-in-U8 c = rw c.in-U8.is (c.from.ensures ∙ c.byte_at.ensures ∙ sym (laws.number-one c.args.b.now c.args.at))

pub returns-in-U16 : goal.returns-in-U16
returns-in-U16 c = rw c.in-U16.is (c.from-in-U16.ensures ∙ c.u16_at.ensures)

pub returns-in-U32 : goal.returns-in-U32
returns-in-U32 c = rw c.in-U32.is c.u32_at.ensures

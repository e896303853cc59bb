use Rattle.little.proofs.LittleLaws as laws
use Rattle.little.specs.Little.{bytes}
use mathlib.Core.Path.{sym}
use Rattle.little.proofs.put_u16.Goals as goal

pub returns-then-at-out : goal.returns-then-at-out
returns-then-at-out c = laws.put_two c.args.out.now c.args.at c.args.value c.lowest.ensures c.lowest-then-at-out.ensures c.put_byte.ensures c.put_byte-then-at-out.ensures

pub returns-else-at-out : goal.returns-else-at-out
returns-else-at-out c = sym (laws.sets-out c.args.out.now c.args.at (bytes 2 c.args.value) c.if-at-out.false)

use Rattle.vsu.proofs.CoreLaws as laws
use Rattle.vsu.proofs.unit.write.Goals as goal

pub returns-then-not-in_range : goal.returns-then-not-in_range
returns-then-not-in_range c = laws.written-refused _ _ _ (laws.unit-refused _ c.in_range.ensures c.if-not-in_range.true)

pub returns : goal.returns
returns c = laws.written_on _ _ _ (laws.unit-accepted _ c.in_range.ensures c.if-not-in_range.false) c.says-said.ensures c.set_u8.ensures

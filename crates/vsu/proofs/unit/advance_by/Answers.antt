use mathlib.Core.Path.{sym, ◌∙◌}
use Rattle.vsu.proofs.CoreLaws as laws
use Rattle.vsu.proofs.unit.advance_by.Goals as goal

pub returns-then-not-in_range : goal.returns-then-not-in_range
returns-then-not-in_range g c = laws.moved-refused _ (laws.unit-refused _ c.in_range.ensures c.if-not-in_range.true) _

pub skip-requires : goal.skip-requires
skip-requires g c = sym c.in_range.ensures ∙ c.if-not-in_range.false

pub returns : goal.returns
returns g c = laws.moved_on_lem _ (laws.unit-accepted _ c.in_range.ensures c.if-not-in_range.false) c.skip.ensures

use Rattle.vsu.proofs.CoreLaws as laws
use Rattle.vsu.proofs.RangeLaws.{range-facts}
use native.Mathlib.Omega.{arith}
use mathlib.Core.Path.{sym, ◌∙◌}
use Rattle.vsu.specs.Core.{ran_as}
use Rattle.vsu.proofs.unit.run_by.Goals as goal

pub returns-then-not-in_range : goal.returns-then-not-in_range
unfolding ran_as
returns-then-not-in_range g c = laws.ran-refused _ _ _ (laws.run-refused _ _ _ (laws.unit-refused _ c.in_range.ensures c.if-not-in_range.true))

pub returns-then-due-out : goal.returns-then-due-out
unfolding ran_as
returns-then-due-out g c =
    laws.ran-refused _ _ _
    (laws.run-crowded _ _ _ (laws.unit-accepted _ c.in_range.ensures c.if-not-in_range.false)
    (omega (arith, c.frames_due-due.ensures, c.if-due-out.true)))

pub step-requires : goal.step-requires
step-requires g c = (sym c.in_range.ensures ∙ c.if-not-in_range.false, omega (arith, c.frames_due-due.ensures, c.if-due-out.false))

pub overflow_cast-result : goal.overflow_cast-result
overflow_cast-result g c =
    record { fits = omega (arith, c.frames_due-due.ensures, (range-facts _ (sym c.in_range.ensures ∙ c.if-not-in_range.false)).output) }

pub returns : goal.returns
unfolding ran_as
returns g c =
    laws.ran_on _ _ _
    (laws.run-accepted _ _ _
    (laws.unit-accepted _ c.in_range.ensures c.if-not-in_range.false)
    (omega (arith, c.frames_due-due.ensures, c.if-due-out.false)))
    c.step.ensures.0
    c.frames_due-due.ensures
    c.step.ensures.1

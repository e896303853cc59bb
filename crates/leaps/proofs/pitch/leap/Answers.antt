use native.Mathlib.Omega.{arith}
use Rattle.leaps.proofs.PitchLaws as laws
use mathlib.Core.Path.{ap, ◌∙◌, sym}
use Rattle.leaps.proofs.pitch.leap.Goals as goal

pub returns-then-n-first : goal.returns-then-n-first
returns-then-n-first c = (λ i. record { pitch = c.counted.ensures i; samples = 0 }) ∙ sym (laws.after-near _ _ _ c.requires.tick _ (rw c.far-first.ensures at c.if-n-first.true))

pub overflow_add-every : goal.overflow_add-every
overflow_add-every c = record { fits = omega (arith, c.far-every.ensures, laws.far-le (laws.rest c.requires c.restarted-q.ensures)) }

pub returns : goal.returns
returns c =
    ap (laws.shifted 1) (laws.all-samples c.requires c.restarted-q.ensures c.far-every.ensures _ c.counted-2.ensures)
    ∙ sym (laws.first-sample c.requires c.restarted-q.ensures _ c.far-first.ensures c.if-n-first.false)

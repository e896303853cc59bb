use Prim.Native.Nat.{ℕ}
use native.Mathlib.Omega.{arith}
use Rattle.leaps.specs.Sample.{samples_on}
use Rattle.leaps.proofs.SampleLaws as laws
use mathlib.Core.Path.{◌≡◌, refl, ◌∙◌, ap}
use borrow.Author.Rules.{rules}
use Rattle.leaps.proofs.sample.clocked.Goals as goal

pub loop-init : goal.loop-init
unfolding samples_on
loop-init c = (search rules, refl)

pub loop-preserved : goal.loop-preserved
loop-preserved c = (omega arith, laws.one_more _ _ c.loop.invariant.1 c.increment_sample-k.ensures)

pub returns : goal.returns
returns c =
    let all : c.loop.counter ≡ c.args.n = omega arith in
    c.loop.invariant.1 ∙ ap (λ (k : ℕ). samples_on k c.args.kind) all

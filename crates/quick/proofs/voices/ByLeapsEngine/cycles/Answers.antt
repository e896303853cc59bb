use Rattle.six.specs.Core.{voices_after_all}
use Rattle.quick.proofs.VoicesLaws as laws
use Rattle.std.specs.Prelude.{◌≡◌, ℕ}
use native.Mathlib.Omega.{arith}
use mathlib.Core.Path.{refl, ◌∙◌, ap}
use borrow.Author.Rules.{rules}
use Rattle.quick.proofs.voices.ByLeapsEngine.cycles.Goals as goal

pub loop-i-init : goal.loop-i-init
unfolding voices_after_all
loop-i-init c = (search rules, λ h. refl)

pub loop-i-preserved-then-i-n : goal.loop-i-preserved-then-i-n
loop-i-preserved-then-i-n c = (omega arith, λ h. laws.after_one _ _ _ (search rules) h (c.loop-i.invariant.1 h) c.far.ensures (omega arith) c.leap-there.ensures c.cycles-next.ensures)

pub loop-i-preserved : goal.loop-i-preserved
loop-i-preserved c = (omega arith, λ h. laws.after-leap _ _ _ (search rules) h (c.loop-i.invariant.1 h) c.far.ensures (omega arith) c.leap-there.ensures)

pub returns : goal.returns
returns c =
    let all : c.loop-i.i ≡ c.args.n = omega arith in
    let a = c.args in
    λ h. c.loop-i.invariant.1 h ∙ ap (λ (k : ℕ). voices_after_all a.modulation.now k a.voices) all

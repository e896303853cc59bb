use Rattle.std.specs.Prelude.{◌≡◌, length}
use mathlib.Core.Path.{◌∙◌, ap}
use native.Mathlib.Omega.{arith}
use borrow.Author.Rules.{rules}
use Rattle.leaps.specs.Distance.{least}
use Rattle.quick.proofs.VoicesLaws as laws
use Rattle.quick.proofs.voices.far.Goals as goal

pub loop-v-preserved : goal.loop-v-preserved
loop-v-preserved c =
    let six : length c.args.voices ≡ 6 = search rules in
    laws.far-later _ _ _ _ (omega arith) c.loop-v.invariant (c.least-nearest.ensures ∙ ap (least _) c.far.ensures)

pub returns : goal.returns
returns c = let six : length c.args.voices ≡ 6 = search rules in laws.far-all c.args.voices c.loop-v.v-index (omega arith) c.loop-v.invariant

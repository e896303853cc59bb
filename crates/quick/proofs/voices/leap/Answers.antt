use Rattle.std.specs.Prelude.{◌≡◌, length}
use mathlib.Core.Path.{◌∙◌, ap}
use native.Mathlib.Omega.{arith}
use borrow.Author.Rules.{rules}
use Rattle.leaps.specs.ChannelEnum.{leap_of}
use Rattle.std.proofs.lemmas.List.Edits.{map_over_more}
use Rattle.quick.proofs.voices.leap.Goals as goal
use lib.ListN.{set}

pub loop-v-preserved : goal.loop-v-preserved
loop-v-preserved c =
    let six : length c.args.voices ≡ 6 = search rules in
    ap (set c.loop-v.v-items c.loop-v.v-index) c.leap.ensures ∙ map_over_more (leap_of c.args.n) c.args.voices c.loop-v.v-items c.loop-v.v-index _ (omega (arith, six)) c.loop-v.invariant (search rules)

use Rattle.std.specs.Prelude.{◌≡◌, length}
use native.Mathlib.Omega.{arith}
use borrow.Author.Rules.{rules}
use Rattle.six.proofs.CoreLaws.{sums-are}
use Rattle.six.proofs.unit.mix.Goals as goal

pub returns : goal.returns
returns c =
    let six : length c.args.voices ≡ 6 = search rules in
    sums-are _ _ c.loop-v.v-index (omega (arith, c.loop-v-test.false)) c.loop-v.invariant.0 c.loop-v.invariant.1

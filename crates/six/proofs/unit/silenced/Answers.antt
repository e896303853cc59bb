use native.Mathlib.Omega.{arith}
use borrow.Author.Rules.{rules}
use Rattle.std.specs.Prelude.{◌≡◌, length}
use Rattle.six.proofs.CoreLaws.{silenced-all}
use Rattle.six.proofs.Upto.{up_to_by-none, up_to_by-more}
use Rattle.six.proofs.unit.silenced.Goals as goal

pub loop-i-init : goal.loop-i-init
loop-i-init c = up_to_by-none _ 0 _

pub loop-i-preserved : goal.loop-i-preserved
loop-i-preserved c =
    let six : length c.args.voices ≡ 6 = search rules in
    up_to_by-more _ _ _ c.loop-i.invariant (omega (arith, c.loop-i-test.true)) c.audible.ensures

pub returns : goal.returns
returns c =
    let six : length c.args.voices ≡ 6 = search rules in
    silenced-all _ _ c.loop-i.invariant (omega (arith, c.loop-i-test.false))

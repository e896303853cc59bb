use borrow.Author.Rules.{rules}
use native.Mathlib.Omega.{arith}
use Rattle.std.specs.Prelude.{◌≡◌, length}
use Rattle.vsu.proofs.CoreLaws as laws
use Rattle.vsu.proofs.unit.samples_in_range.Goals as goal

pub loop-sample-preserved : goal.loop-sample-preserved
loop-sample-preserved c =
    let long : length c.args.waves.now ≡ 160 = search rules in
    laws.one_more _ _ _ (omega (arith, long)) c.loop-sample.small c.loop-sample.invariant

pub returns : goal.returns
returns c =
    let long : length c.args.waves.now ≡ 160 = search rules in
    laws.all_small _ _ _ (omega (arith, long)) c.loop-sample.small c.loop-sample.invariant

use Rattle.std.specs.Prelude.{◌≡◌, length}
use mathlib.Core.Path.{refl}
use native.Mathlib.Omega.{arith}
use Rattle.little.proofs.LittleLaws as little
use borrow.Author.Rules.{rules}
use Rattle.fields.proofs.wave_fields.Goals as goal

pub loop-i-init : goal.loop-i-init
loop-i-init c = (search rules, refl)

pub loop-i-preserved : goal.loop-i-preserved
loop-i-preserved c =
    let all : length c.args.waves ≡ 160 = search rules in
    (search rules, little.fills-more c.loop-i.fields c.args.waves c.loop-i.i c.loop-i.invariant.1 0 (omega arith) (omega arith) (search rules))

pub returns : goal.returns
returns c =
    let all : length c.args.waves ≡ 160 = search rules in
    little.fills-all c.loop-i.fields c.args.waves c.loop-i.i c.loop-i.invariant.1 (omega arith) (omega arith)

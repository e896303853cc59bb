use Rattle.std.specs.Prelude.{◌≡◌, map, length, take, drop}
use mathlib.Core.Path.{refl}
use native.Mathlib.Omega.{arith}
use Rattle.little.proofs.LittleLaws as little
use Rattle.table.specs.Table.{newest, waves_from}
use Rattle.fields.specs.Fields.{byte}
use Rattle.fields.proofs.FieldsLaws as laws
use borrow.Author.Rules.{rules}
use Rattle.fields.proofs.waves_of.Goals as goal

pub loop-i-init : goal.loop-i-init
loop-i-init c = (search rules, refl)

pub loop-i-preserved : goal.loop-i-preserved
loop-i-preserved c =
    let f = c.args.f.now in
    let all : length f ≡ newest.fields = search rules in
    (search rules, little.fills-more c.loop-i.waves (map byte (take 160 (drop waves_from f))) c.loop-i.i c.loop-i.invariant.1 (byte 0) (omega arith) (omega (arith, laws.part_length byte f waves_from 160 (omega arith))) (laws.part_at byte f waves_from 160 c.loop-i-test.true c.byte.ensures))

pub returns : goal.returns
returns c =
    let f = c.args.f.now in
    let all : length f ≡ newest.fields = search rules in
    little.fills-all c.loop-i.waves (map byte (take 160 (drop waves_from f))) c.loop-i.i c.loop-i.invariant.1 (omega arith) (omega (arith, laws.part_length byte f waves_from 160 (omega arith)))

use Rattle.std.specs.Prelude.{◌≡◌, map, length, take, drop}
use mathlib.Core.Path.{refl}
use native.Mathlib.Omega.{arith}
use Rattle.little.proofs.LittleLaws as little
use Rattle.table.specs.Table.{modulation_from, newest}
use Rattle.fields.specs.Fields.{entry_by}
use Rattle.fields.proofs.FieldsLaws as laws
use borrow.Author.Rules.{rules}
use Rattle.fields.proofs.modulation_of.Goals as goal

pub loop-i-init : goal.loop-i-init
loop-i-init c = (search rules, refl)

pub loop-i-preserved : goal.loop-i-preserved
loop-i-preserved c =
    let f = c.args.f.now in
    let all : length f ≡ newest.fields = search rules in
    (search rules, little.fills-more c.loop-i.modulation (map entry_by (take 32 (drop modulation_from f))) c.loop-i.i c.loop-i.invariant.1 (entry_by 0) (omega arith) (omega (arith, laws.part_length entry_by f modulation_from 32 (omega arith))) (laws.signed-at f modulation_from 32 c.loop-i-test.true c.byte.ensures c.signed.ensures))

pub returns : goal.returns
returns c =
    let f = c.args.f.now in
    let all : length f ≡ newest.fields = search rules in
    little.fills-all c.loop-i.modulation (map entry_by (take 32 (drop modulation_from f))) c.loop-i.i c.loop-i.invariant.1 (omega arith) (omega (arith, laws.part_length entry_by f modulation_from 32 (omega arith)))

use Rattle.std.specs.Prelude.{◌≡◌, length, replicate}
use mathlib.Core.Path.{refl}
use Rattle.vsu.proofs.CoreLaws.{length-told}
use Rattle.fields.proofs.WrittenLaws as laws
use borrow.Author.Rules.{rules}
use Rattle.fields.proofs.fields_of.Goals as goal

pub returns : goal.returns
returns c =
    let u = c.args.u in
    let six : length u.voices ≡ 6 = search (rules, length-told) in
    let waves : length u.waves ≡ 160 = search rules in
    let entries : length u.modulation ≡ 32 = search rules in
    laws.all_laid u waves entries six (replicate 326 0) refl (rw c.header_fields.ensures at c.lay.ensures) (rw c.wave_fields.ensures at c.lay-2.ensures) (rw c.entry_fields.ensures at c.lay-3.ensures) c.lay_voices.ensures c.from.ensures c.tail_fields-tail.ensures c.lay-4.ensures

use Rattle.vsu.proofs.CoreLaws as laws
use Rattle.std.specs.Prelude.{◌≡◌, true, length}
use Rattle.vsu.specs.Core.{all_bytes}
use borrow.Author.Rules.{rules}
use Rattle.vsu.proofs.unit.in_range.Goals as goal

pub returns : goal.returns
returns c = let u = c.args.u in
    let six : length u.voices ≡ 6 = search (rules, laws.length-told) in
    let waves : length u.waves ≡ 160 = search rules in
    let entries : length u.modulation ≡ 32 = search rules in
    let bytes : all_bytes u.modulation ≡ true = search laws.bytes-told in
    laws.range-told u six waves entries bytes c.in_range.ensures c.samples_in_range.ensures

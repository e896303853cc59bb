use mathlib.Core.Path.{◌≡◌, ◌∙◌}
use borrow.Author.Rules.{rules}
use Rattle.std.specs.List as list
use Rattle.report.specs.Sum.{fold}
use Rattle.report.proofs.SumLaws.{folded}
use Rattle.report.proofs.sum.of_bytes.Goals as goal

pub returns : goal.returns
returns c = let h : c.fold.result ≡ list.fold fold 0 c.args.bytes.now = search rules in h ∙ folded 0 c.args.bytes.now

use borrow.Author.Rules.{rules}
use Rattle.marks.proofs.MarksLaws.{zeros-free}
use Rattle.marks.proofs.lowest_free.Goals as goal

pub returns : goal.returns
returns c = zeros-free _ (search rules)

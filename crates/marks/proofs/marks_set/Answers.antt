use borrow.Author.Rules.{rules}
use Rattle.marks.proofs.MarksLaws.{ones-set}
use Rattle.marks.proofs.marks_set.Goals as goal

pub returns : goal.returns
returns c = ones-set _ (search rules)

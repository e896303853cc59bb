use borrow.Author.Rules.{rules}
use Rattle.marks.proofs.MarksLaws.{and_mark}
use Rattle.marks.proofs.without_mark.Goals as goal

pub returns : goal.returns
returns c = rw c.mark.ensures (and_mark c.args.slot c.args.marks (search rules))

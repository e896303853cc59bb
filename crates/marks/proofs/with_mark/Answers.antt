use borrow.Author.Rules.{rules}
use Rattle.marks.proofs.MarksLaws.{or_mark}
use Rattle.marks.proofs.with_mark.Goals as goal

pub returns : goal.returns
returns c = rw c.mark.ensures (or_mark c.args.slot c.args.marks (search rules))

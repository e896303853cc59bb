use Rattle.marks.proofs.MarksLaws.{asked}
use Rattle.marks.proofs.is_set.Goals as goal

pub returns : goal.returns
returns c = rw c.unwrap_or.ensures (asked c.checked_shr.result c.args.slot c.args.marks c.checked_shr.ensures)

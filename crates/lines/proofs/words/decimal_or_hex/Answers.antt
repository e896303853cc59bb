use Rattle.lines.specs.Words.{number_of}
use Rattle.lines.proofs.WordsLaws.{marks_is}
use Rattle.lines.proofs.words.decimal_or_hex.Goals as goal

pub returns-in-Some : goal.returns-in-Some
unfolding number_of
returns-in-Some c = rw (← marks_is c.args.text.now, c.in-Some.ensures.cases.0, c.digits.ensures, c.in-Some.ensures.cases.1)

pub returns-in-None : goal.returns-in-None
unfolding number_of
returns-in-None c = rw (← marks_is c.args.text.now, c.in-None.ensures.cases, c.decimal.ensures)

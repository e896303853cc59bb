use Rattle.leaps.proofs.LiveLaws as laws
use borrow.Author.Rules.{rules}
use Rattle.leaps.proofs.live.leap.Goals as goal

pub returns-then-not-l : goal.returns-then-not-l
returns-then-not-l c = laws.leap-stays _ c.if-not-l.true _

pub overflow_add-result : goal.overflow_add-result
overflow_add-result c = search (rules, laws.far-ticks c.args.l c.if-not-l.false)

pub returns : goal.returns
returns c = laws.leap-ticks _ c.if-not-l.false _

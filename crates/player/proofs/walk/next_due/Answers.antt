use Rattle.player.proofs.WalkLaws as laws
use Rattle.player.proofs.walk.next_due.Goals as goal

pub returns-then-applied-count : goal.returns-then-applied-count
returns-then-applied-count c = laws.next-least c.args.log.now c.args.count c.args.applied c.args.target c.if-applied-count.true c.due_at.ensures c.min.ensures

pub returns : goal.returns
returns c = laws.next-ended c.args.log.now c.args.count c.args.applied c.args.target c.if-applied-count.false

use borrow.Author.Rules.{rules}
use Rattle.player.proofs.WalkLaws as laws
use native.Mathlib.Omega.{arith}
use Rattle.player.proofs.walk.skip_to.Goals as goal

pub loop-cycle-init : goal.loop-cycle-init
loop-cycle-init c = laws.log-walks c.args.log.now c.args.count c.args.p.now c.args.target c.requires

pub overflow_add-applied : goal.overflow_add-applied
overflow_add-applied c = omega (arith, laws.log-left c.args.log.now c.args.count c.args.p.now c.args.target c.requires c.loop-cycle.invariant c.next_due-due.ensures c.loop-cycle-test.true c.if-due-cycle.true, c.ranges.count)

pub loop-cycle-smaller-then-due-cycle : goal.loop-cycle-smaller-then-due-cycle
loop-cycle-smaller-then-due-cycle c = omega (arith, laws.log-left c.args.log.now c.args.count c.args.p.now c.args.target c.requires c.loop-cycle.invariant c.next_due-due.ensures c.loop-cycle-test.true c.if-due-cycle.true)

pub loop-cycle-preserved-then-due-cycle : goal.loop-cycle-preserved-then-due-cycle
loop-cycle-preserved-then-due-cycle c =
    laws.skip-wrote c.args.log.now c.args.count c.args.p.now c.args.target c.loop-cycle.invariant (laws.log-entry c.args.log.now c.args.count c.args.p.now c.args.target c.requires c.loop-cycle.invariant c.next_due-due.ensures c.loop-cycle-test.true c.if-due-cycle.true c.write_at-w.ensures (search rules)) c.written.ensures

pub loop-cycle-preserved : goal.loop-cycle-preserved
loop-cycle-preserved c =
    laws.skip-advanced c.args.log.now c.args.count c.args.p.now c.args.target c.loop-cycle.invariant (laws.log-quiet c.args.log.now c.args.count c.args.p.now c.args.target c.requires c.loop-cycle.invariant c.next_due-due.ensures c.if-due-cycle.false) c.advanced-unit.ensures

pub returns : goal.returns
returns c = laws.skipped c.args.log.now c.args.count c.args.p.now c.args.target c.loop-cycle.invariant c.requires.ahead c.loop-cycle-test.false

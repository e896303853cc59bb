use native.Mathlib.Omega.{arith}
use Rattle.register_log.proofs.LogLaws as laws
use Rattle.register_log.specs.Log.{edition1}
use Rattle.register_log.proofs.count_due.Goals as goal
use Rattle.register_log.proofs.count_due.Goals.{then-due_at-cycle, else-due_at-cycle}

pub loop-i-preserved : goal.loop-i-preserved
loop-i-preserved c =
    elim c.if-due_at-cycle.branch [
      | then-due_at-cycle w ↦ rw w.n-is (omega arith, laws.count-one edition1 c.args.log.now c.args.count c.args.cycle c.loop-i.i c.loop-i.n c.loop-i-test.true c.loop-i.invariant.1 c.due_at.ensures w.if-due_at-cycle.true)
      | else-due_at-cycle w ↦ rw w.n-is (omega arith, laws.count_none edition1 c.args.log.now c.args.count c.args.cycle c.loop-i.i c.loop-i.n c.loop-i-test.true c.loop-i.invariant.1 c.due_at.ensures w.if-due_at-cycle.false)
    ]

pub returns : goal.returns
returns c = omega (arith, c.loop-i.invariant, laws.count-end edition1 c.args.log.now c.args.count c.args.cycle c.loop-i.i c.loop-i-test.false)

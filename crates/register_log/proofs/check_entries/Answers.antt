use Prim.Native.Nat.{ℕ}
use mathlib.Core.Path.{refl, ap, ◌∙◌}
use native.Mathlib.Omega.{arith}
use Rattle.register_log.proofs.LogLaws as laws
use Rattle.register_log.specs.Log.{edition1, due_earlier, entries_answer}
use Rattle.register_log.proofs.check_entries.Goals as goal

pub loop-i-init : goal.loop-i-init
unfolding due_earlier
loop-i-init c = (refl, ap (λ (k : ℕ). entries_answer edition1 c.args.log.now c.args.cycles k 0) (omega arith))

pub returns-then-log-at : goal.returns-then-log-at
returns-then-log-at c = laws.by-refused _ _ (c.loop-i.invariant.1 ∙ laws.entries-fault edition1 c.args.log.now c.args.count c.args.cycles c.loop-i.i c.loop-i-test.true (laws.tested edition1 c.args.log.now c.args.cycles c.loop-i.i c.entry_place-at.ensures refl c.due_in-due.ensures c.loop-i.invariant.0 c.if-log-at.true))

pub loop-i-preserved : goal.loop-i-preserved
loop-i-preserved c = (laws.earlier-next edition1 c.args.log.now c.loop-i.i c.entry_place-at.ensures c.due_in-due.ensures, c.loop-i.invariant.1 ∙ laws.entries-on edition1 c.args.log.now c.args.count c.args.cycles c.loop-i.i c.loop-i-test.true (laws.tested edition1 c.args.log.now c.args.cycles c.loop-i.i c.entry_place-at.ensures refl c.due_in-due.ensures c.loop-i.invariant.0 c.if-log-at.false))

pub returns : goal.returns
returns c = laws.by-accepted _ _ (c.loop-i.invariant.1 ∙ laws.entries-end edition1 c.args.log.now c.args.count c.args.cycles c.loop-i.i c.loop-i-test.false)

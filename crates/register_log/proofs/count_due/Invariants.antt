use Prim.Native.Nat.{◌≤◌, ◌-◌, ◌+◌}
use mathlib.Core.Path.{◌≡◌}
use Rattle.register_log.specs.Log.{edition1, due_before, writes_from}
use Rattle.register_log.proofs.count_due.Given as goal

abbrev pub invariant-loop-i : goal.invariant-loop-i
invariant-loop-i l = (l.n ≤ l.i) × (l.n + due_before (writes_from edition1 l.log (l.count - l.i) l.i) l.cycle ≡ due_before (writes_from edition1 l.log l.count 0) l.cycle)

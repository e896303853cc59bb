use mathlib.Core.Path.{◌≡◌}
use Prim.Native.Nat.{◌-◌}
use Rattle.register_log.specs.Log.{edition1, due_earlier, entries_answer}
use Rattle.register_log.proofs.check_entries.Given as goal

abbrev pub invariant-loop-i : goal.invariant-loop-i
invariant-loop-i l = (l.before ≡ due_earlier edition1 l.log l.i) × (entries_answer edition1 l.log l.cycles l.count 0 ≡ entries_answer edition1 l.log l.cycles (l.count - l.i) l.i)

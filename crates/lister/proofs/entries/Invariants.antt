use Prim.Native.Nat.{◌≤◌, ◌-◌}
use Rattle.register_log.specs.Log.{entries_in}
use Rattle.lister.proofs.entries.Given as goal

abbrev pub invariant-loop-at : goal.invariant-loop-at
invariant-loop-at l = l.at ≤ entries_in l.checked

abbrev pub decreases-loop-at : goal.decreases-loop-at
decreases-loop-at l = entries_in l.checked - l.at

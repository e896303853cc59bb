use Prim.Native.Nat.{◌-◌, ◌≤◌}
use Rattle.bouncer.proofs.spans.list.Given as goal

abbrev pub invariant-loop-at : goal.invariant-loop-at
invariant-loop-at l = l.at ≤ l.cycles

abbrev pub decreases-loop-at : goal.decreases-loop-at
decreases-loop-at l = l.cycles - l.at

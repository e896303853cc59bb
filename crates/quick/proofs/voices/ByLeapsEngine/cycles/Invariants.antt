use Rattle.six.specs.Core.{voices_after_all, voices_in_range}
use Rattle.std.specs.Prelude.{◌≡◌, ◌-◌, ◌≤◌, true}
use Rattle.quick.proofs.voices.ByLeapsEngine.cycles.Given as goal

abbrev pub invariant-loop-i : goal.invariant-loop-i
invariant-loop-i l = (l.i ≤ l.n) × (voices_in_range l.initial.out ≡ true → l.out ≡ voices_after_all l.modulation l.i l.initial.out)

abbrev pub decreases-loop-i : goal.decreases-loop-i
decreases-loop-i l = l.n - l.i

use Rattle.std.specs.Prelude.{◌≡◌}
use Rattle.six.specs.Core.{audible}
use Rattle.six.proofs.Upto.{up_to_by}
use Rattle.six.proofs.unit.silenced.Given as goal

abbrev pub invariant-loop-i : goal.invariant-loop-i
invariant-loop-i l = l.out ≡ up_to_by (audible l.mutes) l.i 0 l.initial.out

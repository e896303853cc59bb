use Rattle.std.specs.Prelude.{◌≡◌}
use Rattle.six.specs.Core.{voices_after_all}
use Rattle.six.proofs.unit.cycles.Given as goal

abbrev pub invariant-loop : goal.invariant-loop
invariant-loop l = l.out ≡ voices_after_all l.modulation l.counter l.initial.out

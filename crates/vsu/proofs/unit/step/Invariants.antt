use Rattle.std.specs.Prelude.{◌-◌}
use Rattle.vsu.proofs.StepLaws as laws
use Rattle.vsu.proofs.unit.step.Given as goal

abbrev pub invariant-loop-i : goal.invariant-loop-i
invariant-loop-i g l = laws.Stands l.u l.n l.initial.out l.i l.voices l.output l.at l.out

abbrev pub decreases-loop-i : goal.decreases-loop-i
decreases-loop-i g l = l.n - l.i

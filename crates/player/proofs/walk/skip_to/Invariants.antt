use Rattle.player.proofs.WalkLaws as laws
use Rattle.std.specs.Prelude.{◌+◌, ◌-◌}
use Rattle.player.proofs.walk.skip_to.Given as goal

abbrev pub invariant-loop-cycle : goal.invariant-loop-cycle
invariant-loop-cycle l = laws.Skips l.log l.count l.p l.target (record { unit = l.unit; cycle = l.cycle; applied = l.applied; marks = l.p.marks })

abbrev pub decreases-loop-cycle : goal.decreases-loop-cycle
decreases-loop-cycle l = (l.target - l.cycle) + (l.count - l.applied)

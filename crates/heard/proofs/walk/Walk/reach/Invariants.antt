use Rattle.std.proofs.Common.{◌-◌}
use Rattle.heard.proofs.walk.Walk.reach.Given as goal

abbrev pub decreases-loop-self : goal.decreases-loop-self
decreases-loop-self l = l.due - l.self.cycle

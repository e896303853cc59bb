use Rattle.vsu.specs.Core.{power_on}
use Rattle.vsu.proofs.unit.new.Goals as goal

pub returns : goal.returns
unfolding power_on
returns c = rw c.new.ensures

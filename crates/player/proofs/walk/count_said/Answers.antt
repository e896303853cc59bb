use Rattle.player.specs.Walk.{counted_by}
use Rattle.player.proofs.walk.count_said.Goals as goal

pub returns-in-Taken : goal.returns-in-Taken
unfolding counted_by
returns-in-Taken c = rw c.in-Taken.is

pub returns-in-Held : goal.returns-in-Held
unfolding counted_by
returns-in-Held c = rw c.in-Held.is

pub returns-in-NoRegister : goal.returns-in-NoRegister
unfolding counted_by
returns-in-NoRegister c = rw c.in-NoRegister.is

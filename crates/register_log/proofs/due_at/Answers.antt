use mathlib.Core.Path.{refl}
use Rattle.register_log.specs.Log.{due_at}
use Rattle.register_log.proofs.due_at.Goals as goal

pub returns : goal.returns
unfolding due_at
returns c = rw (c.u32_at.ensures, c.entry_place.ensures) refl

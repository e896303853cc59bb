use mathlib.Core.Path.{refl}
use Rattle.register_log.specs.Log.{write_at, due_at}
use Rattle.register_log.proofs.write_at.Goals as goal

pub returns : goal.returns
unfolding write_at due_at
returns c = rw (c.byte_at.ensures, c.u16_at.ensures, c.u32_at.ensures, c.entry_place-at.ensures) refl

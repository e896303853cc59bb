use Rattle.vsu.specs.Core.{Written}
use mathlib.Core.Path.{ap}
use Rattle.player.proofs.walk.written.Goals as goal

pub returns : goal.returns
returns c = rw c.from.ensures at (ap (λ (m : Written). m.state) c.write.ensures.0)

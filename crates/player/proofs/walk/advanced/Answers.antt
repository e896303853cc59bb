use Rattle.vsu.specs.Core.{Moved}
use mathlib.Core.Path.{ap}
use Rattle.player.proofs.walk.advanced.Goals as goal

pub returns : goal.returns
returns c = ap (λ (m : Moved). m.state) c.advance.ensures.0

use Rattle.vsu.specs.Core.{Ran}
use Rattle.vsu.proofs.CoreLaws.{ran-state}
use mathlib.Core.Path.{sym, ap, ◌∙◌}
use Rattle.player.proofs.walk.ran.Goals as goal

pub returns : goal.returns
returns c = (sym (ran-state c.run.result c.run.new.u) ∙ ap (λ (m : Ran). m.state) c.run.ensures.0, c.run.ensures.1)

use mathlib.Core.Path.{refl}
use Rattle.six.specs.Core.{voices_after_all}
use Rattle.six.proofs.CoreLaws.{one-cycle-more}
use Rattle.six.proofs.unit.cycles.Goals as goal

pub loop-init : goal.loop-init
unfolding voices_after_all
loop-init c = refl

pub loop-preserved : goal.loop-preserved
loop-preserved c = one-cycle-more _ _ _ c.loop.invariant c.cycle-next.ensures

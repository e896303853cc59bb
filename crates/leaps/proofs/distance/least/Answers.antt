use Rattle.leaps.proofs.DistanceLaws as laws
use Rattle.leaps.proofs.distance.least.Goals as goal

pub returns : goal.returns
returns c = laws.least-is _ _ c.min.ensures

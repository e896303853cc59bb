use Rattle.leaps.proofs.EnvelopeLaws as laws
use Rattle.leaps.proofs.envelope.leap.Goals as goal

pub returns : goal.returns
returns c = laws.leap-is _ _

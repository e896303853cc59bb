use Rattle.leaps.specs.Sample.{samples_on}
use mathlib.Core.Path.{◌∙◌, sym, ap}
use Rattle.leaps.proofs.SampleLaws as laws
use Rattle.leaps.proofs.sample.on.Goals as goal

pub returns-in-Wave : goal.returns-in-Wave
returns-in-Wave c = laws.wave-moves _ c.requires _ _ c.position_on.ensures ∙ ap (samples_on _) (sym c.in-Wave.is)

pub returns-in-Swept : goal.returns-in-Swept
returns-in-Swept c = laws.swept-moves _ c.requires _ _ c.position_on-in-Swept.ensures _ ∙ ap (samples_on _) (sym c.in-Swept.is)

pub returns-in-Noise : goal.returns-in-Noise
returns-in-Noise c = c.clocked.ensures

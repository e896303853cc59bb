use mathlib.Core.Path.{◌∙◌}
use Rattle.leaps.proofs.EnvelopeLaws as laws
use Rattle.leaps.proofs.envelope.far.Goals as goal

pub returns-then-e : goal.returns-then-e
returns-then-e c = c.saturating_sub.ensures ∙ laws.far-on _ c.if-e.true

pub returns : goal.returns
returns c = laws.far-off _ c.if-e.false

use mathlib.Core.Path.{◌∙◌}
use Rattle.leaps.proofs.LiveLaws as laws
use Rattle.leaps.proofs.live.far.Goals as goal

pub returns-then-l : goal.returns-then-l
returns-then-l c = c.saturating_sub.ensures ∙ laws.far-ticks _ c.if-l.true

pub returns : goal.returns
returns c = laws.far-never _ c.if-l.false

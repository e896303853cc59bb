use Rattle.leaps.proofs.SweepModulateLaws as laws
use mathlib.Core.Path.{◌∙◌}
use Rattle.leaps.proofs.sweep_modulate.far.Goals as goal

pub returns-then-s : goal.returns-then-s
returns-then-s c = c.saturating_sub.ensures ∙ laws.far-slow _ c.if-s.true

pub returns : goal.returns
returns c = c.saturating_sub-2.ensures ∙ laws.far-fast _ c.if-s.false

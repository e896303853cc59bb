use native.Mathlib.Omega.{arith}
use Rattle.leaps.proofs.PitchLaws as laws
use Rattle.leaps.proofs.pitch.far.Goals as goal

pub overflow_mul-result : goal.overflow_mul-result
overflow_mul-result c = record { fits = omega (arith, laws.ticks-fit c.requires {ticks = c.saturating_sub-ticks.result} (omega arith)) }

pub overflow_add-result : goal.overflow_add-result
overflow_add-result c = record { fits = omega (arith, laws.ticks-fit c.requires {ticks = c.saturating_sub-ticks.result} (omega arith), c.saturating_sub.ensures, c.requires.short) }

pub returns : goal.returns
returns c = laws.far-is c.requires c.saturating_sub.ensures (omega arith)

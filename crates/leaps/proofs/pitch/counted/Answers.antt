use native.Mathlib.Omega.{arith}
use Rattle.leaps.proofs.PitchLaws as laws
use borrow.Author.Rules.{rules}
use Rattle.leaps.proofs.pitch.counted.Goals as goal

pub overflow_add-tick : goal.overflow_add-tick
overflow_add-tick c = search (rules, laws.far-le c.requires.0)

pub overflow_cast-result : goal.overflow_cast-result
overflow_cast-result c = record { fits = omega (arith, laws.quotient_le c.requires.0 _ c.requires.1) }

pub overflow_add-result : goal.overflow_add-result
overflow_add-result c = record { fits = omega (arith, laws.quotient_le c.requires.0 _ c.requires.1, c.requires.0.counter) }

pub returns : goal.returns
returns c = laws.leap-is _ _ _

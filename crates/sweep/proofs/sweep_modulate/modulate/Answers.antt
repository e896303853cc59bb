use native.Mathlib.Omega.{arith}
use Rattle.sweep.proofs.SweepModulateLaws as laws
use Rattle.sweep.proofs.sweep_modulate.modulate.Goals as goal

pub overflow_add-t : goal.overflow_add-t
overflow_add-t c = record { fits = omega (arith, laws.addend_small c.entry.result c.entry.type_inv c.addend.ensures) }

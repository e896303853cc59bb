-- Below all of it, the quotient is below 100.
use Prim.Native.Nat.{ℕ, ◌*◌, ◌/◌, ◌<◌}
use native.Mathlib.Nat.{div-lt_iff_lt-mul}
use native.Mathlib.Omega.{arith}
use Rattle.report.proofs.progress.percent.Goals as goal

below : (done all : ℕ) → done < all → done * 100 / all < 100
below done all h = (div-lt_iff_lt-mul {k = all} {x = done * 100} {y = 100} (omega arith)).1 (omega arith)

pub overflow_cast-result : goal.overflow_cast-result
overflow_cast-result c = rw (c.from.ensures, c.from-2.ensures) (record { fits = omega (arith, below _ _ c.if-done-all.false) })

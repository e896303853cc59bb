-- The input's room, too long to be counted zero by zero.
use mathlib.Core.Path.{sym}
use lib.ListN.{length-replicate}
use Prim.Native.Nat.{ℕ}
use Rattle.wav.proofs.main.Goals as goal

pub slice_bounds-read_full-end : goal.slice_bounds-read_full-end
slice_bounds-read_full-end c = sym (length-replicate {0} {A = ℕ} 1048593 0)

pub slice_bounds-space-end : goal.slice_bounds-space-end
slice_bounds-space-end c = c.read_full-size.ensures.0

pub slice_bounds-split-end : goal.slice_bounds-split-end
slice_bounds-split-end c = c.read_full-size.ensures.1

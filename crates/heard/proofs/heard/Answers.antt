-- The input's room, too long to be counted zero by zero.
use Rattle.std.proofs.Common.{ℕ, sym}
use lib.ListN.{length-replicate}
use Rattle.heard.proofs.heard.Goals as goal

pub slice_bounds-whole-end : goal.slice_bounds-whole-end
slice_bounds-whole-end c = sym (length-replicate {0} {A = ℕ} 1048577 0)

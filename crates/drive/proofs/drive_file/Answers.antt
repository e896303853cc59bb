-- The space has as many bytes as it is made of.
use Rattle.std.proofs.Common.{ℕ, sym}
use lib.ListN.{length-replicate}
use Rattle.drive.proofs.drive_file.Goals as goal

pub slice_bounds-read_file-end : goal.slice_bounds-read_file-end
slice_bounds-read_file-end g c = sym (length-replicate {0} {A = ℕ} 1048577 0)

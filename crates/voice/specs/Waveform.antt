-- The five waves of 32 samples, one after the other.
use Rattle.std.specs.Prelude.{ℕ, ◌+◌, ◌*◌, cond, List, ltb, get_or}

-- "The sample is 0 for banks 5 to 7"
unfoldable pub sample_at : List ℕ → ℕ → ℕ → ℕ
sample_at waves bank position = cond (ltb 4 bank) 0 (get_or waves (bank * 32 + position) 0)

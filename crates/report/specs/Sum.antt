-- Sums of frames and bytes.
use Rattle.std.specs.Prelude.{ℕ, ◌+◌, ◌*◌, ◌-◌, ◌%◌, List, [], ◌∷◌, map, ℤ, pos, negsuc}

-- s = (s × 31 + v) mod 1,000,000,007
abbrev pub fold : ℕ → ℕ → ℕ
fold s v = (s * 31 + v) % 1000000007

unfoldable pub fold_all : ℕ → List ℕ → ℕ
fold_all s [] = s
fold_all s (v ∷ vs) = fold_all (fold s v) vs

-- a side modulo 65,536
unfoldable pub side_of : ℤ → ℕ
side_of (pos n) = n
side_of (negsuc n) = 65535 - n

abbrev pub fold_sides : ℕ → List ℤ → ℕ
fold_sides s vs = fold_all s (map side_of vs)

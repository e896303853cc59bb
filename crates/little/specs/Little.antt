-- Little-endian numbers, over any width.
use Rattle.std.specs.Prelude.{ℕ, zero, suc, ◌+◌, ◌*◌, ◌/◌, ◌%◌, List, [], ◌∷◌, drop}
use Rattle.little.specs.declared.Width.{Width}
use Rattle.little.specs.declared.Width.TheVariants.{U8, U16, U32}

-- the number that the first `width` bytes make, the lowest first; bytes past the end count as 0
unfoldable pub front : ℕ → List ℕ → ℕ
front zero l = 0
front (suc width) [] = 0
front (suc width) (x ∷ l) = x + 256 * front width l

-- the number of `width` bytes at a place
abbrev pub number : ℕ → List ℕ → ℕ → ℕ
number width b at = front width (drop at b)

-- the `width` bytes of a number, the lowest first
unfoldable pub bytes : ℕ → ℕ → List ℕ
bytes zero value = []
bytes (suc width) value = value % 256 ∷ bytes width (value / 256)

abbrev pub size_of : Width → ℕ
size_of U8 = 1
size_of U16 = 2
size_of U32 = 4

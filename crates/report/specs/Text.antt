-- Text laid in a buffer.
use Rattle.std.specs.Prelude.{ℕ, zero, suc, ◌+◌, ◌/◌, ◌%◌, ◌^◌, min, max, cond, List, [], ◌∷◌, ◌++◌, ltb}
use Rattle.io.specs.Digits.{last_digits, hex_digit_ascii}

-- the place behind n bytes from a place on in a buffer of a size; what doesn't fit is left out
abbrev pub place_behind : ℕ → ℕ → ℕ → ℕ
place_behind size at n = max at (min (at + n) size)

-- the fewest decimal digits that hold a number, from k on, tried `more` times
unfoldable pub places_from : ℕ → ℕ → ℕ → ℕ
places_from zero k n = k
places_from (suc more) k n = cond (ltb n (10 ^ k)) k (places_from more (suc k) n)

-- a 64-bit number has 1 to 20
abbrev pub decimal_of : ℕ → List ℕ
decimal_of n = last_digits 10 (places_from 19 1 n) n

-- two digits for each byte
unfoldable pub hex_of : List ℕ → List ℕ
hex_of [] = []
hex_of (b ∷ bs) = hex_digit_ascii (b / 16) ∷ hex_digit_ascii (b % 16) ∷ hex_of bs

-- `refused`, a space, and the two numbers with a space between them
abbrev pub refused_of : ℕ → ℕ → List ℕ
refused_of number carried =
    ((114 ∷ 101 ∷ 102 ∷ 117 ∷ 115 ∷ 101 ∷ 100 ∷ 32 ∷ []) ++ decimal_of number) ++ ((32 ∷ []) ++ decimal_of carried)

-- How a register byte is taken apart.
use Rattle.std.specs.Prelude.{ℕ, ◌+◌, ◌-◌, ◌*◌, ◌/◌, ◌%◌, ◌^◌, Bool, cond, eqb, ltb, ℤ, pos, negsuc}

-- the bits of b from bit `from` up, `width` of them
abbrev pub bits : ℕ → ℕ → ℕ → ℕ
bits from width b = b / 2 ^ from % 2 ^ width

abbrev pub bit : ℕ → ℕ → Bool
bit k b = eqb (bits k 1 b) 1

-- "the modulation byte is signed, from -128 to 127"
unfoldable pub signed : ℕ → ℤ
signed b = cond (ltb b 128) (pos b) (negsuc (255 - b))

-- an entry that is added modulo 2048, as a number that is not below 0: `negsuc e` is -(e + 1)
unfoldable pub addend : ℤ → ℕ
addend (pos e) = e + 2048
addend (negsuc e) = 2047 - e

-- "low frequency byte"
abbrev pub with_low : ℕ → ℕ → ℕ
with_low b f = f / 256 * 256 + b

-- "bits 0 to 2 are frequency bits 8 to 10"
abbrev pub with_high : ℕ → ℕ → ℕ
with_high b f = bits 0 3 b * 256 + f % 256

-- Laws of specs/Bits.antt: masks and shifts once over the width, and the two turns between bytes and signed numbers.
use Prim.Native.Nat.{ℕ, suc, ◌-◌, ◌*◌, ◌/◌, ◌%◌, ◌^◌, ◌<◌, ◌≤◌}
use mathlib.Core.Logic.{inl, inr}
use mathlib.Core.Path.{◌≡◌, refl, sym, ◌∙◌, ap}
use native.Mathlib.Nat.{one-mul, mod-eq_of_lt, zero-mod, div-eq_of_lt, div-le_self, lt_of_lt_of_le, lt_of_le_of_lt}
use native.Mathlib.Omega.{arith}
use borrow.Author.Tests.{lt-ltb, le-ltb}
use lib.Bits.{bit_and, and_mask}
use lib.Pow.{pow-lt, pow_mono}
use lib.IntN.{ℤ, pos, negsuc, ◌+ℤ◌}
use mir.Syntax.{w8, w16}
use mir.Val.{SFits, to_z, of_z}
use mir.Facts.{to_z-of_z, sfits_widen}
use Rattle.std.proofs.lemmas.Bool.{cases_lt}
use Rattle.std.specs.Prelude.{Option, Some, None, SomeIff}
use Rattle.std.specs.Option.{unwrap_or}
use Rattle.common.specs.Bits.{bits, signed, addend}

-- the mask of a width below 8, as the machine makes it
pub mask : {k : ℕ} → k < 8 → 1 * 2 ^ k % 256 ≡ 2 ^ k
mask {k} h = ap (λ (n : ℕ). n % 256) (one-mul (2 ^ k)) ∙ mod-eq_of_lt (pow-lt h)

pub masked : {k : ℕ} → k < 8 → (n : ℕ) → bit_and n (1 * 2 ^ k % 256 - 1) ≡ n % 2 ^ k
masked {k} h n = rw (mask h) (and_mask n k)

-- fields that start past a byte, or are as wide as one
pub field_out : {value from : ℕ} (width : ℕ) → value < 256 → 7 < from → 0 ≡ bits from width value
field_out {value} {from} width h g =
    rw (div-eq_of_lt {n = value} {m = 2 ^ from} (lt_of_lt_of_le h (pow_mono {i = 8} g))) (sym (zero-mod (2 ^ width)))

pub field-whole : {value : ℕ} (from : ℕ) {width : ℕ} → value < 256 → 7 < width → value / 2 ^ from ≡ bits from width value
field-whole {value} from {width} h g =
    sym (mod-eq_of_lt (lt_of_le_of_lt (div-le_self value (2 ^ from)) (lt_of_lt_of_le h (pow_mono {i = 8} g))))

pub shifted-out : {x k : ℕ} → x < 2 ^ 16 → 16 ≤ k → 0 ≡ x / 2 ^ k
shifted-out h g = sym (div-eq_of_lt (lt_of_lt_of_le h (pow_mono g)))

pub shifted_is : (r : Option ℕ) {x : ℕ} (k : ℕ) → x < 2 ^ 16 → SomeIff r (k < 16) (x / 2 ^ k) → unwrap_or r 0 ≡ x / 2 ^ k
shifted_is None k h g = shifted-out h (omega (arith, g))
shifted_is (Some y) k h g = g.1

-- a byte as a signed number
pub signed_is : {b : ℕ} → b < 256 → to_z w8 b ≡ signed b
unfolding signed
signed_is {b} h = elim (cases_lt b 128) [ inl l ↦ rw (lt-ltb b 128 l) | inr g ↦ rw (le-ltb b 128 g) (ap negsuc (omega (arith, h, g))) ]

-- a signed number as what it adds modulo 2048
pub addend-lt : (e : ℤ) → SFits w8 e → addend e < 2176
unfolding addend
addend-lt (pos e) f = omega (arith, f.sfits)
addend-lt (negsuc e) f = omega arith

added_is : (e : ℤ) → SFits w8 e → e +ℤ pos 2048 ≡ pos (addend e)
unfolding addend
added_is (pos e) f = refl
added_is (negsuc e) f = rw (le-ltb 2048 (suc e) (omega (arith, f.sfits))) (ap pos (omega arith))

module _ (e : ℤ) (f : SFits w8 e) where
  entry-is : to_z w16 (of_z w16 (to_z w8 (of_z w8 e))) ≡ e
  entry-is = ap (λ (z : ℤ). to_z w16 (of_z w16 z)) (to_z-of_z f) ∙ to_z-of_z {w = w16} (sfits_widen {w = w8} {w' = w16} {z = e} (tt {0}) f)

  addend-is : to_z w16 (of_z w16 (to_z w8 (of_z w8 e))) +ℤ pos 2048 ≡ pos (addend e)
  addend-is = ap (λ (z : ℤ). z +ℤ pos 2048) entry-is ∙ added_is e f

  pub sum_fits : SFits w16 (to_z w16 (of_z w16 (to_z w8 (of_z w8 e))) +ℤ pos 2048)
  sum_fits = rw addend-is (record { sfits = omega (arith, addend-lt e f) })

  pub sum_is : to_z w16 (of_z w16 (to_z w16 (of_z w16 (to_z w8 (of_z w8 e))) +ℤ pos 2048)) ≡ pos (addend e)
  sum_is = to_z-of_z sum_fits ∙ addend-is

-- Laws of specs/Words.antt: digits read one by one, and what begins with 0x.
use Prim.Native.Nat.{ℕ, ◌+◌, ◌*◌, ◌<◌, ◌≤◌}
use mathlib.Core.Path.{◌≡◌, refl, sym, ap, ◌∙◌}
use mathlib.Core.Bool.{cond, not}
use mathlib.Core.List.{List, [], ◌∷◌}
use native.Mathlib.Numerals.{add-one}
use native.Mathlib.Omega.{arith}
use borrow.Author.Tests.{lt-ltb, le-ltb, le-leb, lt-leb, ne_eqb, tests}
use lib.Dec.{eqb}
use lib.Pointwise.{pointwise}
use Rattle.std.specs.Prelude.{nat_lt}
use Rattle.std.specs.List.{position}
use Rattle.std.proofs.lemmas.List.Sums.{prefix_len-le-length}
use Rattle.std.specs.Option.{unwrap_or}
use Rattle.std.specs.Char.{digit_value}
use Rattle.std.proofs.lemmas.List.Recursion.{is_position_or_len}
use lib.ListN.{get_or, drop, length, take, drop_of_length-le}
use lib.Seq.{drop-cons}
use Rattle.std.specs.Prelude.{Option, Some, None}
use Rattle.lines.specs.Words.{space_of, digit_of, read_on, digits_of, marks_hex}

-- the first space is where the library's search ends
pub space_found : (text : List ℕ) → space_of text ≡ unwrap_or (position (λ b. eqb b 32) text) (length text)
unfolding space_of
space_found text = rw (is_position_or_len space_of (λ b. eqb b 32) refl (λ x xs. ap (λ n. cond (eqb x 32) 0 n) (omega arith)) text) (found _ _ (prefix_len-le-length (λ b. not (eqb b 32)) text))
  where
    found : (k n : ℕ) → k ≤ n → k ≡ unwrap_or (cond (nat_lt k n) (Some k) None) n
    found k n h = grind (arith, h)

-- a digit to a base of 16 at most is the library's
pub digit-same : (b base : ℕ) → base ≤ 16 → digit_value b < base → digit_of b ≡ digit_value b
unfolding digit_of
digit-same b base h g = grind (arith, tests)

pub digit-other : (b base : ℕ) → base ≤ 16 → base ≤ digit_value b → base ≤ digit_of b
unfolding digit_of
digit-other b base h g = grind (arith, tests)

-- the loop over digits: a turn of it, its two ways out before the end, and its end

module _ (base most : ℕ) (text : List ℕ) where
  pub counted : {r : Option ℕ} → 0 < length text → length text ≤ most → read_on base 0 text ≡ r → r ≡ digits_of base most text
  counted h g e = rw (ne_eqb (length text) 0 (λ z. omega (arith, z, h)), le-ltb most (length text) g) (sym e)

  module _ (i n : ℕ) (e : read_on base 0 text ≡ read_on base n (drop i text)) where
    module _ (g : base ≤ 16) (h : i < length text) where
      pub read_more : digit_value (get_or text i 0) < base → base * n + digit_value (get_or text i 0) < 4294967296
          → read_on base 0 text ≡ read_on base (base * n + digit_value (get_or text i 0)) (drop (i + 1) text)
      unfolding read_on
      read_more a b = e ∙ rw (drop-cons text i 0 h, add-one i, digit-same (get_or text i 0) base g a, lt-ltb _ base a, le-leb (base * n + digit_value (get_or text i 0)) 4294967295 (omega (arith, b)))

      pub read-other : base ≤ digit_value (get_or text i 0) → read_on base 0 text ≡ None
      unfolding read_on
      read-other a = e ∙ rw (drop-cons text i 0 h, le-ltb (digit_of (get_or text i 0)) base (digit-other (get_or text i 0) base g a))

      pub read-over : digit_value (get_or text i 0) < base → 4294967296 ≤ base * n + digit_value (get_or text i 0) → read_on base 0 text ≡ None
      unfolding read_on
      read-over a b = e ∙ rw (drop-cons text i 0 h, digit-same (get_or text i 0) base g a, lt-ltb _ base a, lt-leb (base * n + digit_value (get_or text i 0)) 4294967295 (omega (arith, b)))

    pub read_all : length text ≤ i → read_on base 0 text ≡ Some n
    unfolding read_on
    read_all h = e ∙ rw (drop_of_length-le text h)

-- what begins with 0x, as the library compares it
pub marks_is : (text : List ℕ) → pointwise eqb (take 2 text) (48 ∷ 120 ∷ []) ≡ marks_hex text
unfolding marks_hex
marks_is [] = refl
marks_is (a ∷ []) = refl
marks_is (a ∷ b ∷ text) = grind (arith, tests)

-- Laws of specs/Marks.antt.
use Prim.Native.Nat.{ℕ, zero, suc, ◌+◌, ◌-◌, ◌*◌, ◌/◌, ◌%◌, ◌^◌, ◌<◌, ◌≤◌, zero-le}
use mathlib.Core.Path.{◌≡◌, refl, sym, ap, ap₂, ◌∙◌, subst}
use mathlib.Core.Bool.{Bool, true, false, cond, not, ◌&&◌, ◌||◌, and-false}
use native.Mathlib.Nat.{add-zero, add_comm, add-mul, add-mul-div_right, add-mul-mod_self_right, div-add-mod', div-one, max-eq_right, mod-eq_of_lt, mod-lt, mul_assoc, one-mul, pow-suc, suc-mul, zero-add, zero-div}
use native.Mathlib.Numerals.{add-one}
use native.Mathlib.Omega.{arith}
use borrow.Author.Tests.{eqb-true, eqb-false, le-leb, leb-true, leb-false, lt-leb, ltb-true, ltb-false}
use lib.Arith.{digits_div, digits_mod, lt_of_le-ne, lt-one}
use lib.Bits.{bit_and, bit_or, and_block, and_high, and_mask, or_block, or_lt, or_step, or_zero_r}
use lib.Count.{ones, ones_step, count_trailing_zeros, under}
use lib.Dec.{eqb, leb, ltb}
use lib.Pow.{high, high_ones, ones_lt, pow-add, pow-lt, pow_pos, shr_lt, shr-shr, split, suc_ones}
use borrow.Author.Tests.{lt-ltb, le-ltb}
use mathlib.Core.Logic.{inl, inr}
use Rattle.std.proofs.lemmas.Bool.{cases_lt}
use Rattle.std.specs.Option.{unwrap_or}
use Rattle.std.specs.Prelude.{Option, Some, None, SomeIff, if◌then◌else◌}
use Rattle.laws.proofs.Cases.{ways}
use Rattle.common.specs.Bits.{bit}
use Rattle.marks.specs.Marks.{count_from, free_from, is_set, lowest_free, marks_set, with_mark, without_mark}

-- how many are set

digit : (x : ℕ) → x < 2 → x ≡ cond (eqb x 1) 1 0
digit zero h = refl
digit (suc zero) h = refl
digit (suc (suc x)) h = absurd (omega arith)

next : (k m : ℕ) → m / 2 ^ k / 2 ≡ m / 2 ^ suc k
next k m = shr-shr m k 1 ∙ ap (λ (j : ℕ). m / 2 ^ j) (add-one k)

half : {x p : ℕ} → x < p * 2 → x / 2 < p
half {x} {p} h = omega (arith, h)

half_pow : (n : ℕ) {x : ℕ} → x < 2 ^ suc n → x / 2 < 2 ^ n
half_pow n {x} h = half (subst (λ (p : ℕ). x < p) (pow-suc 2 n) h)

none : ones 0 ≡ 0
unfolding ones
none = refl

ones-from : (n k m : ℕ) → m / 2 ^ k < 2 ^ n → ones (m / 2 ^ k) ≡ count_from n k m
unfolding count_from
ones-from zero k m h = ap ones (lt-one h) ∙ none
ones-from (suc n) k m h =
    ones_step (m / 2 ^ k)
    ∙ ap₂ (λ (x y : ℕ). x + y) (digit (m / 2 ^ k % 2) (omega arith))
    (ap ones (next k m) ∙ ones-from n (suc k) m (subst (λ (x : ℕ). x < 2 ^ n) (next k m) (half_pow n h)))

pub ones-set : (m : ℕ) → m < 65536 → ones m ≡ marks_set m
ones-set m h = rw (div-one m) at (ones-from 16 0 m (rw (div-one m) h))

-- the lowest free one

-- the complement in one more digit
comp-odd : {x : ℕ} (p : ℕ) → x < p * 2 → (p * 2 - 1 - x) % 2 ≡ 1 - x % 2
comp-odd {x} p h = omega (arith, h)

comp-half : {x : ℕ} (p : ℕ) → x < p * 2 → (p * 2 - 1 - x) / 2 ≡ p - 1 - x / 2
comp-half {x} p h = omega (arith, h)

free_step : (n k m d t : ℕ) → d < 2 → t + suc k ≡ free_from n (suc k) m → under (1 - d) t + k ≡ cond (eqb d 1) (free_from n (suc k) m) k
free_step n k m zero t h e = zero-add k
free_step n k m (suc zero) t h e = omega (arith, e)
free_step n k m (suc (suc d)) t h e = absurd (omega (arith, h))

free-from : (n k m : ℕ) → m / 2 ^ k < 2 ^ n → count_trailing_zeros n (2 ^ n - 1 - m / 2 ^ k) + k ≡ free_from n k m
unfolding free_from count_trailing_zeros
free-from zero k m h = zero-add k
free-from (suc n) k m h =
    let g : m / 2 ^ k < 2 ^ n * 2 = subst (λ (p : ℕ). m / 2 ^ k < p) (pow-suc 2 n) h in
    ap (λ (p : ℕ). under ((p - 1 - m / 2 ^ k) % 2) (count_trailing_zeros n ((p - 1 - m / 2 ^ k) / 2)) + k) (pow-suc 2 n)
    ∙ ap₂ (λ (x y : ℕ). under x (count_trailing_zeros n y) + k) (comp-odd (2 ^ n) g) (comp-half (2 ^ n) g)
    ∙ free_step n k m (m / 2 ^ k % 2) (count_trailing_zeros n (2 ^ n - 1 - m / 2 ^ k / 2)) (omega arith)
    (ap (λ (x : ℕ). count_trailing_zeros n (2 ^ n - 1 - x) + suc k) (next k m)
    ∙ free-from n (suc k) m (subst (λ (x : ℕ). x < 2 ^ n) (next k m) (half g)))

pub zeros-free : (m : ℕ) → m < 65536 → count_trailing_zeros 16 (65535 - m) ≡ lowest_free m
zeros-free m h =
    sym (add-zero (count_trailing_zeros 16 (65535 - m)))
    ∙ rw (div-one m) at (free-from 16 0 m (rw (div-one m) h))

free-above : (n k m : ℕ) → k ≤ free_from n k m
unfolding free_from
free-above zero k m = omega arith
free-above (suc n) k m = ways (λ (r : ℕ). k ≤ r) (bit k m) (λ t. omega (arith, free-above n (suc k) m)) (λ t. omega arith)

free-within : (n k m : ℕ) → free_from n k m ≤ n + k
unfolding free_from
free-within zero k m = omega arith
free-within (suc n) k m = ways (λ (r : ℕ). r ≤ suc n + k) (bit k m) (λ t. omega (arith, free-within n (suc k) m)) (λ t. omega arith)

free-unset : (n k m : ℕ) → free_from n k m < n + k → bit (free_from n k m) m ≡ false
unfolding free_from
free-unset zero k m h = absurd (omega (arith, h))
free-unset (suc n) k m h =
    ways (λ (r : ℕ). r < suc n + k → bit r m ≡ false) (bit k m) (λ t g. free-unset n (suc k) m (omega (arith, g))) (λ t g. t) h

free-below : (n k m j : ℕ) → k ≤ j → j < free_from n k m → bit j m ≡ true
unfolding free_from
free-below zero k m j h g = absurd (omega (arith, h, g))
free-below (suc n) k m j h g =
    ways (λ (r : ℕ). j < r → bit j m ≡ true) (bit k m)
    (λ t l. later (ltb k j) refl t (λ i. free-below n (suc k) m j i l)) (λ t l. absurd (omega (arith, h, l))) g
  where
    later : (b : Bool) → ltb k j ≡ b → bit k m ≡ true → (suc k ≤ j → bit j m ≡ true) → bit j m ≡ true
    later true e t p = p (ltb-true k j e)
    later false e t p = let l : j ≡ k = omega (arith, h, ltb-false k j e) in rw l t

pub lowest-le : (m : ℕ) → lowest_free m ≤ 16
lowest-le m = free-within 16 0 m

pub lowest-unset : (m : ℕ) → lowest_free m ≤ 15 → is_set (lowest_free m) m ≡ false
unfolding is_set
lowest-unset m h = rw (free-unset 16 0 m (omega (arith, h))) (and-false (leb (lowest_free m) 15))

pub lowest-below : (m j : ℕ) → j < lowest_free m → is_set j m ≡ true
unfolding is_set
lowest-below m j h = rw (free-below 16 0 m j zero-le h, le-leb j 15 (omega (arith, h, lowest-le m)))

-- one digit set anew, between the digits above it and those below it

abbrev put : ℕ → ℕ → ℕ → ℕ
put s d m = (m / 2 ^ s / 2 * 2 + d) * 2 ^ s + m % 2 ^ s

module _ (s m : ℕ) where
  put-own : put s (m / 2 ^ s % 2) m ≡ m
  put-own = ap (λ (x : ℕ). x * 2 ^ s + m % 2 ^ s) (div-add-mod' (m / 2 ^ s) 2) ∙ split m s

  put-high : (d : ℕ) → put s d m / 2 ^ s ≡ m / 2 ^ s / 2 * 2 + d
  put-high d = high (m / 2 ^ s / 2 * 2 + d) s (mod-lt m (pow_pos s))

  put-at : (d : ℕ) → d < 2 → put s d m / 2 ^ s % 2 ≡ d
  put-at d h = ap (λ (x : ℕ). x % 2) (put-high d) ∙ digits_mod (m / 2 ^ s / 2) h

pow-over : (t j : ℕ) {s : ℕ} → suc t + j ≡ s → 2 ^ s ≡ 2 ^ t * 2 * 2 ^ j
pow-over t j e = ap (λ (x : ℕ). 2 ^ x) (sym e) ∙ pow-add 2 (suc t) j ∙ ap (λ (x : ℕ). x * 2 ^ j) (pow-suc 2 t)

low_digit : (q r j : ℕ) → (q * 2 * 2 ^ j + r) / 2 ^ j % 2 ≡ r / 2 ^ j % 2
low_digit q r j =
    ap (λ (x : ℕ). x / 2 ^ j % 2) (add_comm (q * 2 * 2 ^ j) r) ∙ ap (λ (x : ℕ). x % 2) (add-mul-div_right r (q * 2) (pow_pos j))
    ∙ add-mul-mod_self_right (r / 2 ^ j) q 2

over-pow : (x t j : ℕ) {s : ℕ} → suc t + j ≡ s → x * 2 ^ s ≡ x * 2 ^ t * 2 * 2 ^ j
over-pow x t j e =
    ap (λ (p : ℕ). x * p) (pow-over t j e) ∙ sym (mul_assoc x (2 ^ t * 2) (2 ^ j)) ∙ ap (λ (p : ℕ). p * 2 ^ j) (sym (mul_assoc x (2 ^ t) 2))

put-below : (t j : ℕ) {s : ℕ} → suc t + j ≡ s → (m d : ℕ) → put s d m / 2 ^ j % 2 ≡ m % 2 ^ s / 2 ^ j % 2
put-below t j {s} e m d =
    ap (λ (x : ℕ). (x + m % 2 ^ s) / 2 ^ j % 2) (over-pow (m / 2 ^ s / 2 * 2 + d) t j e)
    ∙ low_digit ((m / 2 ^ s / 2 * 2 + d) * 2 ^ t) (m % 2 ^ s) j

shr-over : (t s : ℕ) {j : ℕ} → s + (1 + t) ≡ j → (n : ℕ) → n / 2 ^ j ≡ n / 2 ^ s / 2 / 2 ^ t
shr-over t s e n = ap (λ (x : ℕ). n / 2 ^ x) (sym e) ∙ sym (shr-shr n s (1 + t)) ∙ sym (shr-shr (n / 2 ^ s) 1 t)

put-above : (t s : ℕ) {j : ℕ} → s + (1 + t) ≡ j → (m d : ℕ) → d < 2 → put s d m / 2 ^ j % 2 ≡ m / 2 ^ s / 2 / 2 ^ t % 2
put-above t s e m d h =
    ap (λ (x : ℕ). x % 2) (shr-over t s e (put s d m))
    ∙ ap (λ (x : ℕ). x / 2 / 2 ^ t % 2) (put-high s m d)
    ∙ ap (λ (x : ℕ). x / 2 ^ t % 2) (digits_div (m / 2 ^ s / 2) h)

-- the other digits stay
put_other : (s j m d : ℕ) → d < 2 → (j ≡ s → ⊥) → put s d m / 2 ^ j % 2 ≡ m / 2 ^ j % 2
put_other s j m d h n = go (ltb j s) refl
  where
    own : ℕ
    own = m / 2 ^ s % 2

    go : (b : Bool) → ltb j s ≡ b → put s d m / 2 ^ j % 2 ≡ m / 2 ^ j % 2
    go true e =
        let k : suc (s - suc j) + j ≡ s = omega (arith, ltb-true j s e) in
        put-below (s - suc j) j k m d ∙ sym (put-below (s - suc j) j k m own) ∙ ap (λ (x : ℕ). x / 2 ^ j % 2) (put-own s m)
    go false e =
        let l : suc s ≤ j = lt_of_le-ne (ltb-false j s e) (λ p. n (sym p)) in
        let k : s + (1 + (j - suc s)) ≡ j = omega (arith, l) in
        put-above (j - suc s) s k m d h ∙ sym (put-above (j - suc s) s k m own (mod-lt (m / 2 ^ s) (omega arith))) ∙ ap (λ (x : ℕ). x / 2 ^ j % 2) (put-own s m)

up_one : (a p r : ℕ) → (a + 1) * p + r ≡ (a + 0) * p + r + p
up_one a p r =
    let e : (a + 1) * p ≡ a * p + p = add-mul a 1 p ∙ ap (λ (x : ℕ). a * p + x) (one-mul p) in
    rw (e, add-zero a) (swap (a * p))
  where
    swap : (x : ℕ) → x + p + r ≡ x + r + p
    swap x = omega arith

less : {m x : ℕ} (p : ℕ) → m ≡ x + p → m - p ≡ x
less {m} {x} p e = omega (arith, e)

-- the two changes are this one

module _ (s m : ℕ) where
  put-more : put s 1 m ≡ put s 0 m + 2 ^ s
  put-more = up_one (m / 2 ^ s / 2 * 2) (2 ^ s) (m % 2 ^ s)

  set-digit : bit s m ≡ true → put s 1 m ≡ m
  set-digit t = ap (λ (d : ℕ). put s d m) (sym (eqb-true (m / 2 ^ s % 2) 1 t)) ∙ put-own s m

  unset-digit : bit s m ≡ false → put s 0 m ≡ m
  unset-digit t = ap (λ (d : ℕ). put s d m) (sym (low (m / 2 ^ s % 2) (mod-lt (m / 2 ^ s) (omega arith)) (eqb-false (m / 2 ^ s % 2) 1 t))) ∙ put-own s m
    where
      low : (x : ℕ) → x < 2 → (x ≡ 1 → ⊥) → x ≡ 0
      low zero h n = refl
      low (suc zero) h n = absurd (n refl)
      low (suc (suc x)) h n = absurd (omega (arith, h))

  with-put : s ≤ 15 → put s 1 m ≡ with_mark s m
  unfolding with_mark
  with-put h =
      rw (le-leb s 15 h)
      (ways (λ (r : ℕ). put s 1 m ≡ r) (bit s m) set-digit (λ t. put-more ∙ ap (λ (x : ℕ). x + 2 ^ s) (unset-digit t)))

  without-put : s ≤ 15 → put s 0 m ≡ without_mark s m
  unfolding without_mark
  without-put h =
      rw (le-leb s 15 h)
      (ways (λ (r : ℕ). put s 0 m ≡ r) (bit s m) (λ t. sym (less (2 ^ s) (sym (set-digit t) ∙ put-more))) unset-digit)

  -- and what the machine's operations make

  or-one : (a : ℕ) → bit_or a 1 ≡ a / 2 * 2 + 1
  or-one a = or_step a 1 ∙ ap₂ (λ (x y : ℕ). x * 2 + y) (or_zero_r (a / 2)) (max-eq_right (omega arith))

  or_put : bit_or m (2 ^ s) ≡ put s 1 m
  or_put =
      ap₂ bit_or (sym (split m s)) (sym (add-zero (1 * 2 ^ s) ∙ one-mul (2 ^ s)))
      ∙ or_block s (m / 2 ^ s) 1 (m % 2 ^ s) 0 (mod-lt m (pow_pos s)) (pow_pos s)
      ∙ ap₂ (λ (x y : ℕ). x * 2 ^ s + y) (or-one (m / 2 ^ s)) (or_zero_r (m % 2 ^ s))

-- a mask without one digit
mask-parts : (k p : ℕ) → suc k * 2 * p ≡ 65536 → 0 < p → 65535 - p ≡ k * 2 * p + (p - 1)
mask-parts k p e h = parts (k * 2 * p) (sym (ap (λ (x : ℕ). x * p) (suc-mul k 2) ∙ add-mul (k * 2) 2 p) ∙ e)
  where
    parts : (z : ℕ) → z + 2 * p ≡ 65536 → 65535 - p ≡ z + (p - 1)
    parts z f = omega (arith, f, h)

module _ (s m : ℕ) (h : s ≤ 15) (g : m < 65536) where
  whole : suc (15 - s) + s ≡ 16
  whole = omega (arith, h)

  mask-split : 65535 - 2 ^ s ≡ (2 ^ (15 - s) - 1) * 2 * 2 ^ s + (2 ^ s - 1)
  mask-split =
      mask-parts (2 ^ (15 - s) - 1) (2 ^ s) (ap (λ (x : ℕ). x * 2 * 2 ^ s) (suc_ones (15 - s)) ∙ sym (pow-over (15 - s) s whole)) (pow_pos s)

  top_lt : m / 2 ^ s / 2 < 2 ^ (15 - s)
  top_lt =
      subst (λ (x : ℕ). x < 2 ^ (15 - s)) (sym (shr-shr m s 1))
      (shr_lt (15 - s) (s + 1) (subst (λ (x : ℕ). m < 2 ^ x) {x = 16} {y = 15 - s + (s + 1)} (omega (arith, h)) g))

  and-even : bit_and (m / 2 ^ s) ((2 ^ (15 - s) - 1) * 2) ≡ m / 2 ^ s / 2 * 2 + 0
  and-even =
      ap (bit_and (m / 2 ^ s)) (sym (high_ones (15 - s) 1)) ∙ and_high (m / 2 ^ s) (15 - s) 1
      ∙ ap (λ (x : ℕ). x * 2) (mod-eq_of_lt top_lt) ∙ sym (add-zero (m / 2 ^ s / 2 * 2))

  and-put : bit_and m (65535 - 2 ^ s) ≡ put s 0 m
  and-put =
      ap₂ bit_and (sym (split m s)) mask-split
      ∙ and_block s (m / 2 ^ s) ((2 ^ (15 - s) - 1) * 2) (m % 2 ^ s) (2 ^ s - 1) (mod-lt m (pow_pos s)) (ones_lt s)
      ∙ ap₂ (λ (x y : ℕ). x * 2 ^ s + y) and-even (and_mask (m % 2 ^ s) s ∙ mod-eq_of_lt (mod-lt m (pow_pos s)))

  pub or-with : bit_or m (2 ^ s) ≡ with_mark s m
  or-with = or_put s m ∙ with-put s m h

  pub and-without : bit_and m (65535 - 2 ^ s) ≡ without_mark s m
  and-without = and-put ∙ without-put s m h

  with_in : with_mark s m < 65536
  with_in = subst (λ (x : ℕ). x < 65536) (or_put s m ∙ with-put s m h) (or_lt 16 m (2 ^ s) g (pow-lt {i = s} {j = 16} (omega (arith, h))))

-- a slot past the last one changes nothing

pub with-past : (s m : ℕ) → 15 < s → m ≡ with_mark s m
unfolding with_mark
with-past s m h = rw (lt-leb s 15 h)

pub without-past : (s m : ℕ) → 15 < s → m ≡ without_mark s m
unfolding without_mark
without-past s m h = rw (lt-leb s 15 h)

-- one mark asked

pub past-unset : (s m : ℕ) → 15 < s → false ≡ is_set s m
unfolding is_set
past-unset s m h = rw (lt-leb s 15 h)

pub set-asked : (s m : ℕ) → s ≤ 15 → eqb (bit_and (m / 2 ^ s) 1) 1 ≡ is_set s m
unfolding is_set
set-asked s m h = rw (le-leb s 15 h, and_mask (m / 2 ^ s) 1)

-- what the code computes, whatever the slot

pub asked : (r : Option ℕ) (s m : ℕ) → SomeIff r (s < 16) (m / 2 ^ s) → eqb (bit_and (unwrap_or r 0) 1) 1 ≡ is_set s m
asked None s m h = past-unset s m (omega (arith, h))
asked (Some x) s m h = rw h.1 (set-asked s m (omega (arith, h.0)))

module _ (s m : ℕ) (g : m < 65536) where
  pub or_mark : bit_or m (if ltb s 16 then 2 ^ s else 0) ≡ with_mark s m
  or_mark =
      elim (cases_lt s 16) [
        | inl h ↦ rw (lt-ltb s 16 h) (or-with s m (omega (arith, h)) g)
        | inr h ↦ rw (le-ltb s 16 h, or_zero_r m) (with-past s m h)
      ]

  pub and_mark : bit_and m (65535 - (if ltb s 16 then 2 ^ s else 0)) ≡ without_mark s m
  and_mark =
      elim (cases_lt s 16) [
        | inl h ↦ rw (lt-ltb s 16 h) (and-without s m (omega (arith, h)) g)
        | inr h ↦ rw (le-ltb s 16 h) (and_mask m 16 ∙ mod-eq_of_lt g ∙ without-past s m h)
      ]

-- which marks are set afterwards

pub unset-at-first : (j : ℕ) → is_set j 0 ≡ false
unfolding is_set
unset-at-first j = rw (zero-div (2 ^ j)) (and-false (leb j 15))

module _ (j s m : ℕ) (h : s ≤ 15) where
  same : {n d : ℕ} → put s d m ≡ n → d < 2 → eqb j s ≡ false → is_set j n ≡ is_set j m
  unfolding is_set
  same {n} {d} e l t = ap (λ (x : ℕ). leb j 15 && eqb (x / 2 ^ j % 2) 1) (sym e) ∙ ap (λ (x : ℕ). leb j 15 && eqb x 1) (put_other s j m d l (eqb-false j s t))

  here : {n : ℕ} (d : ℕ) → put s d m ≡ n → d < 2 → eqb j s ≡ true → is_set j n ≡ eqb d 1
  unfolding is_set
  here {n} d e l t =
      rw (eqb-true j s t, le-leb s 15 h) (ap (λ (x : ℕ). eqb (x / 2 ^ s % 2) 1) (sym e) ∙ ap (λ (x : ℕ). eqb x 1) (put-at s m d l))

  pub set-with : is_set j (with_mark s m) ≡ (eqb j s || is_set j m)
  set-with = go (eqb j s) refl
    where
      go : (b : Bool) → eqb j s ≡ b → is_set j (with_mark s m) ≡ (b || is_set j m)
      go true t = here 1 (with-put s m h) (omega arith) t
      go false t = same {d = 1} (with-put s m h) (omega arith) t

  pub set-without : is_set j (without_mark s m) ≡ (not (eqb j s) && is_set j m)
  set-without = go (eqb j s) refl
    where
      go : (b : Bool) → eqb j s ≡ b → is_set j (without_mark s m) ≡ (not b && is_set j m)
      go true t = here 0 (without-put s m h) (omega arith) t
      go false t = same {d = 0} (without-put s m h) (omega arith) t

pub with-lt : (s m : ℕ) → m < 65536 → with_mark s m < 65536
with-lt s m g = go (leb s 15) refl
  where
    go : (b : Bool) → leb s 15 ≡ b → with_mark s m < 65536
    go true t = with_in s m (leb-true s 15 t) g
    go false t = subst (λ (x : ℕ). x < 65536) (with-past s m (leb-false s 15 t)) g

pub without-lt : (s m : ℕ) → m < 65536 → without_mark s m < 65536
unfolding without_mark
without-lt s m g =
    ways (λ (r : ℕ). r < 65536) (leb s 15) (λ _. ways (λ (r : ℕ). r < 65536) (bit s m) (λ _. less-lt (2 ^ s)) (λ _. g)) (λ _. g)
  where
    less-lt : (p : ℕ) → m - p < 65536
    less-lt p = omega (arith, g)

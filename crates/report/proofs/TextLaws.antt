-- Laws of specs/Text.antt: text laid byte by byte and piece by piece, and how many digits a number has.
use Prim.Native.Nat.{ℕ, zero, suc, ◌+◌, ◌-◌, ◌/◌, ◌%◌, ◌^◌, ◌<◌, ◌≤◌, min}
use mathlib.Core.Path.{◌≡◌, refl, sym, ap, ◌∙◌}
use mathlib.Core.List.{List, [], ◌∷◌, ◌++◌, append_assoc}
use native.Mathlib.Decide.{dec_lt}
use native.Mathlib.Nat.{pow-le-pow_right}
use native.Mathlib.Numerals.{add-one}
use native.Mathlib.Omega.{arith}
use borrow.Author.Tests.{ltb-true, ltb-false}
use lib.Dec.{ltb, lit<}
use lib.ListN.{get_or, take, drop, length, length-append}
use lib.Seq.{sets, sets-eq, length-sets, take-suc, take_all}
use borrow.Rule.Slice.PartMut.{put_mid}
use Rattle.std.proofs.lemmas.List.{drop-drop, length-take-le, take-append-drop}
use Rattle.io.specs.Digits.{last_digits, hex_digit_ascii, IsDigitCount}
use Rattle.laws.proofs.Cases.{ways}
use Rattle.little.proofs.LittleLaws.{sets-append, sets-out}
use Rattle.report.specs.Text.{place_behind, places_from, decimal_of, hex_of}

-- what laying xs leaves: the place after it, and the buffer
pub record Laid (l : List ℕ) (at : ℕ) (xs : List ℕ) (m : List ℕ) (r : ℕ) : Type 0 where
  pub place : r ≡ place_behind (length l) at (length xs)
  pub held : m ≡ sets l at xs

pub kept : {l : List ℕ} {at : ℕ} {xs m : List ℕ} {r : ℕ} → Laid l at xs m r → length m ≡ length l
kept {l} {at} {xs} f = ap length f.held ∙ length-sets l at xs

place_after : (size at i n : ℕ) → place_behind size (place_behind size at i) n ≡ place_behind size at (i + n)
place_after size at i n = omega arith

-- one piece after the other is both, also where they don't fit
pub joined : {l : List ℕ} {at : ℕ} {xs ys m n : List ℕ} {r s : ℕ} → Laid l at xs m r → Laid m r ys n s → Laid l at (xs ++ ys) n s
joined {l} {at} {xs} {ys} {m} {n} {r} {s} f g =
    record { place = g.place ∙ rw (same, f.place, length-append xs ys) (place_after (length l) at (length xs) (length ys)); held = g.held ∙ go (dec_lt (length l) (at + length xs)) }
  where
    same : length m ≡ length l
    same = kept f

    whole : sets m (at + length xs) ys ≡ sets l at (xs ++ ys)
    whole = rw f.held (sets-append l at xs ys refl)

    go : Dec (length l < at + length xs) → sets m r ys ≡ sets l at (xs ++ ys)
    go (yes h) = sets-out m r ys (omega (arith, same, f.place)) ∙ sym (sets-out m (at + length xs) ys (omega (arith, same))) ∙ whole
    go (no h) = ap (λ (k : ℕ). sets m k ys) (omega (arith, f.place)) ∙ whole

pub none : (l : List ℕ) (at : ℕ) → Laid l at [] l at
none l at = record { place = omega arith; held = refl }

-- what a text leaves of which so much is copied as there is room for

module _ (l xs : List ℕ) (at : ℕ) where
  cut : (k : ℕ) → k ≡ min (length xs) (length l - at) → sets l at (take k xs) ≡ sets l at xs
  cut k e = go (dec_lt k (length xs))
    where
      front : length (take k xs) ≡ k
      front = length-take-le k xs (omega (arith, e))

      go : Dec (k < length xs) → sets l at (take k xs) ≡ sets l at xs
      go (yes h) =
          sym (sets-out (sets l at (take k xs)) (at + k) (drop k xs) (omega (arith, e, length-sets l at (take k xs)))) ∙ sets-append l at (take k xs) (drop k xs) (ap (λ (n : ℕ). at + n) front) ∙ ap (sets l at) (take-append-drop k xs)
      go (no h) = ap (sets l at) (take_all k xs (omega arith))

  pub copied : {k n : ℕ} {ys : List ℕ} → at ≤ length l → k ≡ min (length xs) (length l - at) → n ≡ k → ys ≡ take k xs → put_mid at n l ys ≡ sets l at xs
  copied {k} h e f g =
      let p : length (take k xs) ≡ k = length-take-le k xs (omega (arith, e)) in
      rw (f, g, drop-drop k at l) (sym (append_assoc (take at l) (take k xs) (drop (at + k) l)) ∙ sym (rw p at (sets-eq (take k xs) l at (omega (arith, e, p)))) ∙ cut k e)

-- what a call says that it laid, of an equal text
pub laid : (l : List ℕ) (at : ℕ) (xs : List ℕ) {ys m : List ℕ} {r : ℕ} → xs ≡ ys → (r ≡ place_behind (length l) at (length xs)) × (m ≡ sets l at xs) → Laid l at ys m r
laid l at xs e p = rw (← e) (record { place = p.0; held = p.1 })

-- how many digits a number has

room : (k n r : ℕ) → k ≤ r → n < 10 ^ k → (k < r → 10 ^ (r - 1) ≤ n) → k ≡ r
room k n r h a b = go (dec_lt k r)
  where
    go : Dec (k < r) → k ≡ r
    go (yes g) = absurd (omega (arith, b g, pow-le-pow_right {n = 10} (lit< tt) {i = k} {j = r - 1} (omega arith)))
    go (no g) = omega arith

no_room : (k n r : ℕ) → k ≤ r → 10 ^ k ≤ n → n < 10 ^ r → suc k ≤ r
no_room k n r h a b = go (dec_lt k r)
  where
    go : Dec (k < r) → suc k ≤ r
    go (yes g) = g
    go (no g) = absurd (omega (arith, pow-le-pow_right {n = 10} (lit< tt) {i = r} {j = k} (omega arith)))

places : (more k n r : ℕ) → k ≤ r → r ≤ k + more → n < 10 ^ r → (k < r → 10 ^ (r - 1) ≤ n) → r ≡ places_from more k n
unfolding places_from
places zero k n r h g a b = omega arith
places (suc more) k n r h g a b =
    ways
    (λ (x : ℕ). r ≡ x)
    (ltb n (10 ^ k))
    (λ t. sym (room k n r h (ltb-true _ _ t) b))
    (λ t. places more (suc k) n r (no_room k n r h (ltb-false _ _ t) a) (omega arith) a (λ u. b (omega arith)))

most : (n r : ℕ) → n < 2 ^ 64 → (1 < r → 10 ^ (r - 1) ≤ n) → r ≤ 20
most n r h b = go (dec_lt 20 r)
  where
    go : Dec (20 < r) → r ≤ 20
    go (yes g) = absurd (omega (arith, b (omega arith), pow-le-pow_right {n = 10} (lit< tt) {i = 20} {j = r - 1} (omega arith)))
    go (no g) = omega arith

-- the digits that `io::decimal` leaves
pub decimal-is : (n r : ℕ) → n < 2 ^ 64 → IsDigitCount 10 1 n r → last_digits 10 r n ≡ decimal_of n
decimal-is n r h f =
    ap (λ (k : ℕ). last_digits 10 k n) (places 19 1 n r f.0 (omega (arith, most n r h f.2)) f.1 f.2)

-- the two that `io::hex` leaves of a byte

two : (b r : ℕ) → b < 256 → IsDigitCount 16 2 b r → r ≡ 2
two b r h f = go (dec_lt 2 r)
  where
    go : Dec (2 < r) → r ≡ 2
    go (yes g) = absurd (omega (arith, f.2 g, pow-le-pow_right {n = 16} (lit< tt) {i = 2} {j = r - 1} (omega arith)))
    go (no g) = omega (arith, f.0)

pub hex-is : (b r : ℕ) → b < 256 → IsDigitCount 16 2 b r → last_digits 16 r b ≡ hex_of (b ∷ [])
unfolding hex_of
hex-is b r h f =
    let e : b / 16 % 16 ≡ b / 16 = omega arith in
    rw (two b r h f) (ap (λ (d : ℕ). hex_digit_ascii d ∷ hex_digit_ascii (b % 16) ∷ []) e)

pub hex-split : (xs ys : List ℕ) → hex_of (xs ++ ys) ≡ hex_of xs ++ hex_of ys
unfolding hex_of
hex-split [] ys = refl
hex-split (x ∷ xs) ys = ap (λ (l : List ℕ). hex_digit_ascii (x / 16) ∷ hex_digit_ascii (x % 16) ∷ l) (hex-split xs ys)

-- the loop that lays the digits byte by byte: a turn of it, and every byte's laid

module _ {l : List ℕ} {at : ℕ} (bs : List ℕ) (i : ℕ) where
  pub hex-turn : i < length bs → {m n : List ℕ} {r s : ℕ} → Laid l at (hex_of (take i bs)) m r → Laid m r (hex_of (get_or bs i 0 ∷ [])) n s → (length n ≡ length l) × Laid l at (hex_of (take (i + 1) bs)) n s
  hex-turn h {n = n} {s = s} a b =
      let c : Laid l at (hex_of (take (i + 1) bs)) n s = rw (add-one i, take-suc bs i 0 h, hex-split) (joined a b) in
      (kept c, c)

  pub hex-all : length bs ≤ i → {m : List ℕ} {r : ℕ} → Laid l at (hex_of (take i bs)) m r → (r ≡ place_behind (length l) at (length (hex_of bs))) × (m ≡ sets l at (hex_of bs))
  hex-all h a =
      let e : hex_of (take i bs) ≡ hex_of bs = ap hex_of (take_all i bs h) in (rw e at a.place, rw e at a.held)

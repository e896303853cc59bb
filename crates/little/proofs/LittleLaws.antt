-- Laws of specs/Little.antt.
use Prim.Native.Nat.{ℕ, zero, suc, ◌+◌, ◌-◌, ◌*◌, ◌/◌, ◌%◌, ◌^◌, ◌<◌, ◌≤◌}
use mathlib.Core.Path.{◌≡◌, refl, sym, ap, ◌∙◌}
use mathlib.Core.List.{List, [], ◌∷◌, ◌++◌, append_assoc}
use native.Mathlib.Nat.{add-sub_of_le, pow-suc}
use native.Mathlib.Numerals.{add-one}
use native.Mathlib.Omega.{arith}
use lib.ListN.{get_or, set, take, drop, length, drop_of_length-le}
use lib.Seq.{drop_at, drop-drop, drop-nil, drop-set-add, drop-set-lt, take_at, take-suc, take_all, length-take-le, sets, sets-eq, set_out, take-set-le, take-suc-set}
use Rattle.little.specs.Little.{bytes, front, number}

front-nil : (w : ℕ) → front w [] ≡ 0
unfolding front
front-nil zero = refl
front-nil (suc w) = refl

pub number_past : (w : ℕ) (b : List ℕ) (at : ℕ) → length b ≤ at → 0 ≡ number w b at
number_past w b at h = sym (ap (front w) (drop_of_length-le b h) ∙ front-nil w)

-- one more byte, over any width: what every reader's proof goes by
pub number_step : (w : ℕ) (b : List ℕ) (at : ℕ) → number (suc w) b at ≡ get_or b at 0 + 256 * number w b (at + 1)
unfolding front
number_step w [] at = rw (drop-nil at, drop-nil (at + 1), front-nil w)
number_step w (x ∷ b) zero = refl
number_step w (x ∷ b) (suc at) = rw (add-one (suc at)) (rw (add-one at) at (number_step w b at))

-- the two widths that are read

module _ (b : List ℕ) (at : ℕ) where
  same_place : (w i : ℕ) {j : ℕ} → at + i + 1 ≡ j → number w b (at + i + 1) ≡ number w b j
  same_place w i e = ap (number w b) e

  none : (i : ℕ) → number 0 b i ≡ 0
  unfolding front
  none i = refl

  pub number-two : number 2 b at ≡ get_or b at 0 + 256 * get_or b (at + 1) 0
  number-two = omega (arith, number_step 1 b at, number_step 0 b (at + 1), none (at + 1 + 1))

  pub number-four : number 4 b at ≡ get_or b at 0 + 256 * get_or b (at + 1) 0 + 65536 * get_or b (at + 2) 0 + 16777216 * get_or b (at + 3) 0
  number-four =
      omega
      (arith, number_step 3 b at, number_step 2 b (at + 1), same_place 2 1 {j = at + 2} (omega arith), number_step 1 b (at + 2), same_place 1 2 {j = at + 3} (omega arith), number_step 0 b (at + 3), none (at + 3 + 1))

pub first_byte : (b : List ℕ) (at : ℕ) {x : ℕ} → x ≡ get_or b (at + 0) 0 → x ≡ get_or b at 0
first_byte b at e = let a : at + 0 ≡ at = omega arith in rw (← a) e

pub number-one : (b : List ℕ) (at : ℕ) → number 1 b at ≡ get_or b at 0
number-one b at = omega (arith, number_step 0 b at, none b at (at + 1))

-- stores, one run after the other

pub sets-append : {A : Type 0} (l : List A) (i : ℕ) (xs ys : List A) {j : ℕ} → i + length xs ≡ j → sets (sets l i xs) j ys ≡ sets l i (xs ++ ys)
sets-append l i [] ys e = ap (λ (k : ℕ). sets l k ys) (omega (arith, sym e))
sets-append l i (x ∷ xs) ys e = sets-append (set l i x) (suc i) xs ys (omega (arith, e))

pub sets-out : {A : Type 0} (l : List A) (i : ℕ) (xs : List A) → length l ≤ i → sets l i xs ≡ l
sets-out l i [] h = refl
sets-out l i (x ∷ xs) h = rw (set_out l i x h) (sets-out l (suc i) xs (omega arith))

-- a run of stores, seen through a window that it does not touch, and through its own.

module _ {A : Type 0} where
  set_before : (l : List A) (i n j : ℕ) (a : A) → i + n ≤ j → take n (drop i (set l j a)) ≡ take n (drop i l)
  set_before l i n j a h =
      let e : j ≡ i + (j - i) = sym (add-sub_of_le (omega arith)) in
      rw (e, drop-set-add i l (j - i) a) (take-set-le n (drop i l) (j - i) a (omega arith))

  pub sets-before : (l : List A) (i n j : ℕ) (vs : List A) → i + n ≤ j → take n (drop i (sets l j vs)) ≡ take n (drop i l)
  sets-before l i n j [] h = refl
  sets-before l i n j (a ∷ vs) h = sets-before (set l j a) i n (suc j) vs (omega arith) ∙ set_before l i n j a h

  pub sets-after : (l : List A) (i j : ℕ) (vs : List A) → j + length vs ≤ i → drop i (sets l j vs) ≡ drop i l
  sets-after l i j [] h = refl
  sets-after l i j (a ∷ vs) h = sets-after (set l j a) i (suc j) vs (omega arith) ∙ drop-set-lt i l j a (omega arith)

  pub sets-there : (l : List A) (i n : ℕ) (vs : List A) → length vs ≡ n → i + n ≤ length l → take n (drop i (sets l i vs)) ≡ vs
  sets-there l i n vs e h =
      rw (sets-eq vs l i (omega arith), append_assoc (take i l) vs (drop (i + length vs) l), drop_at (take i l) (vs ++ drop (i + length vs) l) i (length-take-le i l (omega arith)))
      (take_at vs (drop (i + length vs) l) n e)

  -- two lists that are the same from a place on are so from a later one
  pub drop-later : (x y : List A) (i j : ℕ) → i ≤ j → drop i x ≡ drop i y → drop j x ≡ drop j y
  drop-later x y i j h e =
      let k : i + (j - i) ≡ j = add-sub_of_le h in
      rw (← k) (sym (drop-drop (j - i) i x) ∙ ap (drop (j - i)) e ∙ drop-drop (j - i) i y)

-- a loop that stores a list from its front: a turn of it, and the list stored

module _ {A : Type 0} (l : List A) (at : ℕ) (xs : List A) (i : ℕ) {m : List A} (e : m ≡ sets l at (take i xs)) where
  pub sets_more : (d : A) {k : ℕ} {x : A} → i < length xs → at + i ≡ k → x ≡ get_or xs i d → set m k x ≡ sets l at (take (i + 1) xs)
  sets_more d h k p =
      rw (e, p, add-one i, take-suc xs i d h)
      (sets-append l at (take i xs) (get_or xs i d ∷ []) (ap (λ (n : ℕ). at + n) (length-take-le i xs (omega arith)) ∙ k))

  pub sets-done : length xs ≤ i → m ≡ sets l at xs
  sets-done h = e ∙ ap (sets l at) (take_all i xs h)

-- a loop that fills a list from its front: a turn of it, and the list filled

module _ {A : Type 0} (m xs : List A) (i : ℕ) (e : take i m ≡ take i xs) where
  pub fills-more : (d : A) {x : A} → i < length m → i < length xs → x ≡ get_or xs i d → take (i + 1) (set m i x) ≡ take (i + 1) xs
  fills-more d {x} h g p = rw (add-one i, take-suc-set m i x h, take-suc xs i d g, e, p)

  pub fills-all : length m ≤ i → length xs ≤ i → m ≡ xs
  fills-all h g = sym (take_all i m h) ∙ e ∙ take_all i xs g

-- a number's bytes, over any width

pub bytes-length : (w v : ℕ) → length (bytes w v) ≡ w
unfolding bytes
bytes-length zero v = refl
bytes-length (suc w) v = ap suc (bytes-length w (v / 256))

-- the number that a number's bytes make is the number, where they have room for it
pub front_bytes : (w v : ℕ) (rest : List ℕ) → v < 256 ^ w → front w (bytes w v ++ rest) ≡ v
unfolding front bytes
front_bytes zero v rest h = omega (arith, h)
front_bytes (suc w) v rest h =
    rw (front_bytes w (v / 256) rest (omega (arith, rw (pow-suc 256 w) at h))) (omega arith)

-- the bytes of the number that bytes make are those bytes
pub bytes-front : (w : ℕ) (l : List ℕ) → w ≤ length l → ((i : ℕ) → i < w → get_or l i 0 < 256) → bytes w (front w l) ≡ take w l
unfolding front bytes
bytes-front zero l h k = refl
bytes-front (suc w) [] h k = absurd (omega arith)
bytes-front (suc w) (x ∷ l) h k =
    let a : (x + 256 * front w l) % 256 ≡ x = omega (arith, k 0 (omega arith)) in
    let b : (x + 256 * front w l) / 256 ≡ front w l = omega (arith, k 0 (omega arith)) in
    rw (a, b, bytes-front w l (omega arith) (λ i g. k (suc i) (omega arith)))

-- what the writers leave: bytes one after the other

module _ (l : List ℕ) (at v : ℕ) {m : List ℕ} where
  pub put_one : {a : ℕ} → a ≡ v % 256 → m ≡ set l at a → m ≡ sets l at (bytes 1 v)
  unfolding bytes
  put_one p q = rw (q, p)

  pub put_two : {n : List ℕ} {a b : ℕ} → a ≡ v % 256 → b ≡ v / 256 % 256 → m ≡ set l at a → n ≡ set m (at + 1) b → n ≡ sets l at (bytes 2 v)
  unfolding bytes
  put_two p q r s = rw (s, r, p, q, add-one at)

  pub put_four : {n : List ℕ} → m ≡ sets l at (bytes 2 v) → n ≡ sets m (at + 2) (bytes 2 (v / 65536)) → n ≡ sets l at (bytes 4 v)
  unfolding bytes
  put_four r s =
      let a : v / 65536 ≡ v / 256 / 256 = omega arith in
      rw (s, r, a) (sets-append l at (bytes 2 v) (bytes 2 (v / 256 / 256)) refl)

-- a number of bytes is below its width
pub front_below : (w : ℕ) (l : List ℕ) → ((i : ℕ) → get_or l i 0 < 256) → front w l < 256 ^ w
unfolding front
front_below zero l k = omega arith
front_below (suc w) [] k = omega (arith, pow-suc 256 w, front_below w [] (λ i. omega arith))
front_below (suc w) (x ∷ l) k = rw (pow-suc 256 w) (omega (arith, k 0, front_below w l (λ i. k (suc i))))

-- A loop that puts each element of a list through f, which goes by the element's number, from the front: what it has after j turns.
use Rattle.std.specs.Prelude.{◌≡◌, ℕ, zero, suc, ◌+◌, ◌<◌, ◌≤◌, List, [], ◌∷◌, map, length, get_or, set}
use mathlib.Core.Path.{refl, ap, subst, ◌∙◌}
use native.Mathlib.Nat.{add-zero, zero-add}
use native.Mathlib.Numerals.{add-one}
use native.Mathlib.Omega.{arith}

module _ {A : Type 0} (f : ℕ → A → A) where
  -- the first j elements, where the first of all has number k
  unfoldable pub up_to_by : ℕ → ℕ → List A → List A
  up_to_by zero k l = l
  up_to_by (suc j) k [] = []
  up_to_by (suc j) k (x ∷ l) = f k x ∷ up_to_by j (suc k) l

  pub up_to_by-none : (k : ℕ) (l : List A) → l ≡ up_to_by 0 k l
  unfolding up_to_by
  up_to_by-none k l = refl

  step_by : (j k : ℕ) (l : List A) (d : A) → j < length l → set (up_to_by j k l) j (f (k + j) (get_or (up_to_by j k l) j d)) ≡ up_to_by (suc j) k l
  unfolding up_to_by
  step_by j k [] d h = absurd (omega arith)
  step_by zero k (x ∷ l) d h = rw add-zero
  step_by (suc j) k (x ∷ l) d h =
      let e : suc k + j ≡ k + suc j = omega arith in
      ap (λ (t : List A). f k x ∷ t) (subst (λ (i : ℕ). set (up_to_by j (suc k) l) j (f i (get_or (up_to_by j (suc k) l) j d)) ≡ up_to_by (suc j) (suc k) l) e (step_by j (suc k) l d (omega arith)))

  pub up_to_by-more : {m : List A} (l : List A) {j : ℕ} (d : A) {y : A} → m ≡ up_to_by j 0 l → j < length l → y ≡ f j (get_or m j d) → set m j y ≡ up_to_by (j + 1) 0 l
  up_to_by-more l {j} d e h q = rw (q, e, add-one j) (rw zero-add at (step_by j 0 l d h))

-- The same where the number is nothing to f.

module _ {A : Type 0} (f : A → A) where
  -- the first j elements through f
  abbrev pub up_to : ℕ → List A → List A
  up_to j l = up_to_by (λ _. f) j 0 l

  pub up_to-none : (l : List A) → l ≡ up_to 0 l
  up_to-none l = up_to_by-none (λ _. f) 0 l

  pub up_to-more : {m : List A} (l : List A) {j : ℕ} (d : A) {y : A} → m ≡ up_to j l → j < length l → y ≡ f (get_or m j d) → set m j y ≡ up_to (j + 1) l
  up_to-more l d e h q = up_to_by-more (λ _. f) l d e h q

  all : (j k : ℕ) (l : List A) → length l ≤ j → up_to_by (λ _. f) j k l ≡ map f l
  unfolding up_to_by
  all zero k [] h = refl
  all zero k (x ∷ l) h = absurd (omega arith)
  all (suc j) k [] h = refl
  all (suc j) k (x ∷ l) h = ap (λ (t : List A). f x ∷ t) (all j (suc k) l (omega arith))

  pub up_to-all : {m : List A} (l : List A) {j : ℕ} → m ≡ up_to j l → length l ≤ j → m ≡ map f l
  up_to-all l {j} e h = e ∙ all j 0 l h

-- A list each of whose elements is f of that of another.
pub map-is : {A B : Type 0} (f : A → B) (xs : List A) (ys : List B) → length ys ≡ length xs → ((i : ℕ) (d : A) (e : B) → i < length xs → get_or ys i e ≡ f (get_or xs i d)) → ys ≡ map f xs
map-is f [] [] l h = refl
map-is f [] (y ∷ ys) l h = absurd (omega arith)
map-is f (x ∷ xs) [] l h = absurd (omega arith)
map-is {B = B} f (x ∷ xs) (y ∷ ys) l h = rw (h 0 x y (omega arith)) (ap (λ (t : List B). f x ∷ t) (map-is f xs ys (omega arith) (λ i d e k. h (suc i) d e (omega arith))))

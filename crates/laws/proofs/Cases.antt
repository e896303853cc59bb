-- How a test is taken apart: the tests that `&&` joins, and the two ways of a `cond`; and one more index of a range.
use Prim.Native.Nat.{ℕ, suc, ◌+◌, ◌<◌, ◌≤◌}
use mathlib.Core.Path.{◌≡◌, refl, subst}
use mathlib.Core.Bool.{Bool, true, false, cond, ◌&&◌, ◌||◌, and-eq-true_iff, true≢false}
use mathlib.Core.List.{List, [], ◌∷◌}
use native.Mathlib.Decide.{ℕ_discrete}
use native.Mathlib.Omega.{arith}

pub both : {a b : Bool} → a ≡ true → b ≡ true → (a && b) ≡ true
both p q = rw (p, q)

abbrev every : Bool → List Bool → Bool
every a [] = a
every a (b ∷ bs) = every (a && b) bs

abbrev All : List Bool → Type 0
All [] = Unit
All (b ∷ bs) = (b ≡ true) × All bs

pub each : {P : Type 0} (a : Bool) (bs : List Bool) → every a bs ≡ true → (All (a ∷ bs) → P) → P
each a [] h p = p (h, tt)
each a (b ∷ bs) h p =
    each (a && b) bs h (λ k. let l : (a ≡ true) × (b ≡ true) = (and-eq-true_iff a b).0 k.0 in p (l.0, (l.1, k.1)))

pub ways : {A : Type 0} (P : A → Type 0) (b : Bool) {x y : A} → (b ≡ true → P x) → (b ≡ false → P y) → P (cond b x y)
ways P true t f = t refl
ways P false t f = f refl

pub neither : (a b : Bool) → (a || b) ≡ false → (a ≡ false) × (b ≡ false)
neither true b h = absurd (true≢false h)
neither false b h = (refl, h)

-- one more index, where the first is known and the others are
pub ahead : (P : ℕ → Type 0) (n i : ℕ) → P i → ((j : ℕ) → suc i ≤ j → j < suc i + n → P j) → (j : ℕ) → i ≤ j → j < i + suc n → P j
ahead P n i p r j h g = go (ℕ_discrete i j)
  where
    go : Dec (i ≡ j) → P j
    go (yes e) = subst P e p
    go (no d) = r j (omega arith) (omega arith)

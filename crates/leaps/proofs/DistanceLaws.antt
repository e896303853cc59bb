-- The nearer of two distances.
use Prim.Native.Nat.{ℕ, ◌≤◌, min}
use mathlib.Core.Path.{◌≡◌}
use native.Mathlib.Omega.{arith}
use borrow.Author.Tests.{ltb-true, ltb-false}
use lib.Dec.{ltb}
use Rattle.laws.proofs.Cases.{ways}
use Rattle.leaps.specs.Distance.{least}

module _ (a b : ℕ) where
  pub least-is : {x : ℕ} → x ≡ min a b → x ≡ least a b
  unfolding least
  least-is {x} e = ways (λ (y : ℕ). x ≡ y) (ltb a b) (λ t. omega (arith, e, ltb-true a b t)) (λ t. omega (arith, e, ltb-false a b t))

  -- what is within it is within both
  pub within : {n : ℕ} → n ≤ least a b → (n ≤ a) × (n ≤ b)
  unfolding least
  within {n} =
      ways (λ (x : ℕ). n ≤ x → (n ≤ a) × (n ≤ b)) (ltb a b) (λ t h. (h, omega (arith, ltb-true a b t))) (λ t h. (omega (arith, ltb-false a b t), h))

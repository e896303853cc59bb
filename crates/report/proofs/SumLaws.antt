-- Laws of specs/Sum.antt: the library's fold is ours, and a side from its cast.
use Prim.Native.Nat.{ℕ, min}
use mathlib.Core.Path.{◌≡◌, refl}
use mathlib.Core.List.{List, [], ◌∷◌}
use native.Mathlib.Omega.{arith}
use lib.IntN.{ℤ, pos, negsuc}
use lib.ListN.{take, length}
use mir.Syntax.{w16}
use mir.Val.{of_z}
use Rattle.std.proofs.lemmas.List.{take_min}
use Rattle.std.specs.List as list
use Rattle.report.specs.Sum.{fold, fold_all, fold_sides, side_of}

pub folded : (s : ℕ) (xs : List ℕ) → list.fold fold s xs ≡ fold_all s xs
unfolding fold_all
folded s [] = refl
folded s (x ∷ xs) = folded (fold s x) xs

sides : (s : ℕ) (xs : List ℤ) → list.fold (λ (t : ℕ) (v : ℤ). fold t (side_of v)) s xs ≡ fold_sides s xs
unfolding fold_all
sides s [] = refl
sides s (x ∷ xs) = sides (fold s (side_of x)) xs

pub folded-sides : (s n : ℕ) (xs : List ℤ) {end : ℕ} → end ≡ min n (length xs) → list.fold (λ (t : ℕ) (v : ℤ). fold t (side_of v)) s (take end xs) ≡ fold_sides s (take n xs)
folded-sides s n xs e = rw (e, take_min n xs) (sides s (take n xs))

pub cast-side : (z : ℤ) → of_z w16 z ≡ side_of z
unfolding side_of
cast-side (pos n) = refl
cast-side (negsuc n) = omega arith

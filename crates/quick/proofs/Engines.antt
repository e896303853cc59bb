-- "For every state in range, every cycle count and every buffer, both answer the same: state, frames, refusal, untouched bytes."
use Rattle.std.specs.Prelude.{◌≡◌, ℕ, false, List, length, ℤ, Result, Ok, Err}
use mathlib.Core.Path.{refl, sym, ap, ◌∙◌}
use Rattle.refusal.specs.Refusal.{Answer}
use Rattle.refusal.specs.declared.Refusal.{Refusal}
use Rattle.refusal.specs.declared.Refusal.TheVariants.{State}
use Rattle.vsu.proofs.CoreLaws.{Promised, moved-refused, ran-refused, ran-state, run-refused, unit-refused}
use Rattle.vsu.specs.Core.{advance_of, in_range, Moved, Ran, ran_as, run}
use Rattle.vsu.specs.declared.unit.Vsu.{Vsu}

-- A run hands back a Result and leaves a state, of which its contract speaks as one record (`ran_as`): that fixes both.

abbrev handed : Answer → ℕ → Result ℕ Refusal
handed (Ok done) frames = Ok frames
handed (Err why) frames = Err why

told : (r : Result ℕ Refusal) (u : Vsu) → handed (ran_as r u).answer (ran_as r u).frames ≡ r
unfolding ran_as
told (Ok frames) u = refl
told (Err why) u = refl

pub ran-fixes : (r s : Result ℕ Refusal) (u v : Vsu) → ran_as r u ≡ ran_as s v → (r ≡ s) × (u ≡ v)
ran-fixes r s u v e = (sym (told r u) ∙ ap (λ (x : Ran). handed x.answer x.frames) e ∙ told s v, sym (ran-state r u) ∙ ap (λ (x : Ran). x.state) e ∙ ran-state s v)

module _ (n : ℕ) (u : Vsu) where
  -- `Promised` is what the contract of either engine's `run` says of what it hands back and of its buffer afterwards
  pub same-run : (out : List ℤ) {one other : Ran} {after then : List ℤ} → Promised u n out one after → Promised u n out other then → (one ≡ other) × (after ≡ then)
  same-run out a b = (a.0 ∙ sym b.0, a.1 ∙ sym b.1)

  -- the same of the Results and states themselves
  pub same-result : (out : List ℤ) {r s : Result ℕ Refusal} {left other : Vsu} {after then : List ℤ} → Promised u n out (ran_as r left) after → Promised u n out (ran_as s other) then → (r ≡ s) × (left ≡ other) × (after ≡ then)
  same-result out {r = r} {s = s} {left = left} {other = other} a b =
      let both : (ran_as r left ≡ ran_as s other) × (_ ≡ _) = same-run out a b in
      let fixed : (r ≡ s) × (left ≡ other) = ran-fixes r s left other both.0 in (fixed.0, fixed.1, both.1)

  pub same-advance : {one other : Moved} → one ≡ advance_of n u → other ≡ advance_of n u → one ≡ other
  same-advance a b = a ∙ sym b

  -- outside the range both refuse 1, and hand back state and bytes as given
  module _ (h : in_range u ≡ false) where
    pub run-refuses : (out : List ℤ) {r : Ran} {after : List ℤ} → Promised u n out r after → (r ≡ record { state = u; frames = 0; answer = Err State }) × (after ≡ out)
    run-refuses out p = same-run out p (ran-refused u n out (run-refused u n (length out) (unit-refused u refl h)))

    -- of the Result and the state itself
    pub result-refuses : (out : List ℤ) {r : Result ℕ Refusal} {left : Vsu} {after : List ℤ} → Promised u n out (ran_as r left) after → (r ≡ Err State) × (left ≡ u) × (after ≡ out)
    unfolding ran_as
    result-refuses out {r = r} {left = left} p =
        let a : (ran_as r left ≡ ran_as (Err State) u) × (_ ≡ out) = run-refuses out p in
        let fixed : (r ≡ Err State) × (left ≡ u) = ran-fixes r (Err State) left u a.0 in (fixed.0, fixed.1, a.1)

    pub advance-refuses : {m : Moved} → m ≡ advance_of n u → m ≡ record { state = u; answer = Err State }
    advance-refuses p = same-advance p (moved-refused u (unit-refused u refl h) (run n u)).0

-- What a reader hands out, read by read: the writes of an accepted log in their order, then that it has ended, any number of times.
use Prim.Native.Nat.{ℕ, zero, suc, ◌+◌, ◌<◌, ◌≤◌}
use mathlib.Core.Path.{◌≡◌, refl, sym, ap, ◌∙◌}
use mathlib.Core.Bool.{Bool, true, false}
use mathlib.Core.List.{List, [], ◌∷◌}
use native.Mathlib.Omega.{arith}
use borrow.Author.Tests.{lt-ltb, le-ltb, leb-true, leb-false}
use lib.Dec.{leb}
use lib.ListN.{get_or, length}
use Rattle.refusal.specs.declared.Refusal.{Refusal}
use Rattle.register_log.proofs.AcceptedLaws.{accepted, writes_at, writes-length}
use Rattle.register_log.proofs.LogLaws.{handed-in, handed-past}
use Rattle.register_log.specs.Log.{Layout, check_of, entries_in, entry_in, entry_of, handed, place_after, writes_from, writes_of, Checked, Read, log_with}
use Rattle.register_log.specs.declared.Write.{Write}
use Rattle.std.specs.Prelude.{Ok, Err, Some, None}

-- the place after a read

module _ {c : Checked} (i : ℕ) where
  pub after-entry : {count cycles : ℕ} → c ≡ log_with count cycles → i < count → i + 1 ≡ place_after c i
  unfolding place_after
  after-entry q h = rw (q, lt-ltb _ _ h) (omega arith)

  pub after-end : {count cycles : ℕ} → c ≡ log_with count cycles → count ≤ i → i ≡ place_after c i
  unfolding place_after
  after-end q h = rw (q, le-ltb _ _ h)

  pub after-refused : {why : Refusal} → c ≡ Err why → i ≡ place_after c i
  unfolding place_after
  after-refused q = rw q

-- what a read tells of the place

write-inside : (ws : List Write) (i : ℕ) {w : Write} → Ok (Some w) ≡ handed ws i → i < length ws
unfolding handed
write-inside [] i e = let z : ◌≡◌ {A = ℕ} 0 1 = cc in omega arith
write-inside (w ∷ ws) zero e = omega arith
write-inside (w ∷ ws) (suc i) e = omega (arith, write-inside ws i e)

ended-past : (ws : List Write) (i : ℕ) → Ok None ≡ handed ws i → length ws ≤ i
unfolding handed
ended-past [] i e = omega arith
ended-past (w ∷ ws) zero e = let z : ◌≡◌ {A = ℕ} 0 1 = cc in omega arith
ended-past (w ∷ ws) (suc i) e = omega (arith, ended-past ws i e)

refused-never : (ws : List Write) (i : ℕ) {why : Refusal} → Err why ≡ handed ws i → ⊥
unfolding handed
refused-never [] i e = let z : ◌≡◌ {A = ℕ} 0 1 = cc in omega arith
refused-never (w ∷ ws) zero e = let z : ◌≡◌ {A = ℕ} 0 1 = cc in omega arith
refused-never (w ∷ ws) (suc i) e = refused-never ws i e

module _ (l : Layout) (b : List ℕ) (i : ℕ) where
  pub read-write : (c : Checked) {w : Write} → Ok (Some w) ≡ entry_in l c b i → (i < entries_in c) × (place_after c i ≡ i + 1)
  unfolding entry_in
  read-write (Ok log) e =
      let h = rw (writes-length l b log.count 0) at (write-inside (writes_from l b log.count 0) i e) in (h, sym (after-entry i refl h))
  read-write (Err why) e = let z : ◌≡◌ {A = ℕ} 0 1 = cc in absurd (omega arith)

  pub read-ended : (c : Checked) → Ok None ≡ entry_in l c b i → entries_in c ≤ i
  unfolding entry_in
  read-ended (Ok log) e = rw (writes-length l b log.count 0) at (ended-past (writes_from l b log.count 0) i e)
  read-ended (Err why) e = omega arith

  pub read-refused : (c : Checked) {why : Refusal} → Err why ≡ entry_in l c b i → entries_in c ≡ 0
  unfolding entry_in
  read-refused (Ok log) e = absurd (refused-never (writes_from l b log.count 0) i e)
  read-refused (Err why) e = refl

-- which write of an accepted log is read

module _ (l : Layout) (b : List ℕ) {c : Checked} where
  pub read-handed : (i : ℕ) {r : Read} → r ≡ entry_in l c b i → (n k : ℕ) → check_of l b ≡ log_with n k → c ≡ log_with n k → r ≡ handed (writes_of l b) i
  unfolding entry_in
  read-handed i e n k p q = e ∙ rw (q, (accepted l b n k p).count)

-- read by read, from a new reader on: its place after k reads
unfoldable pub place_on : Checked → ℕ → ℕ
place_on c zero = 0
place_on c (suc k) = place_after c (place_on c k)

module _ (l : Layout) (b : List ℕ) where
  module _ {n k : ℕ} (e : check_of l b ≡ log_with n k) where
    pub place-before : (j : ℕ) → j ≤ n → place_on (check_of l b) j ≡ j
    unfolding place_on
    place-before zero h = refl
    place-before (suc j) h = ap (place_after (check_of l b)) (place-before j (omega arith)) ∙ sym (after-entry j e (omega arith)) ∙ omega arith

    pub place-past : (j : ℕ) → n ≤ j → place_on (check_of l b) j ≡ n
    unfolding place_on
    place-past zero h = omega arith
    place-past (suc j) h = on (leb n j) refl (place-past j)
      where
        on : (t : Bool) → leb n j ≡ t → (n ≤ j → place_on (check_of l b) j ≡ n) → place_after (check_of l b) (place_on (check_of l b) j) ≡ n
        on true f r = ap (place_after (check_of l b)) (r (leb-true _ _ f)) ∙ sym (after-end n e (omega arith))
        on false f r = let z : suc j ≡ n = omega (arith, leb-false n j f) in place-before (suc j) (omega arith) ∙ z

    found : (i : ℕ) → entry_of l b i ≡ handed (writes_from l b n 0) i
    unfolding entry_in
    found i = rw e

    pub hands_out : (j : ℕ) (d : Write) → j < n → entry_of l b (place_on (check_of l b) j) ≡ Ok (Some (get_or (writes_of l b) j d))
    hands_out j d h =
        rw (place-before j (omega arith), (accepted l b n k e).count, writes_at l b n 0 j d h) (found j ∙ handed-in l b n 0 j h)

    pub ends : (j : ℕ) → n ≤ j → entry_of l b (place_on (check_of l b) j) ≡ Ok None
    ends j h = rw (place-past j h) (found n ∙ handed-past l b n 0 n (omega arith))

  pub refuses : {why : Refusal} → check_of l b ≡ Err why → (j : ℕ) → entry_of l b (place_on (check_of l b) j) ≡ Err why
  unfolding entry_in
  refuses e j = rw e

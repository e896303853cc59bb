-- The unbroken run: in two spans; how many writes are due; a state in range stays in range; the output counter and the number of frames.
use Rattle.std.specs.Prelude.{◌≡◌, ℕ, zero, suc, ◌+◌, ◌/◌, ◌%◌, ◌<◌, ◌≤◌, Bool, true, false, cond, eqb, ltb, List, [], ◌∷◌, ◌++◌, length, get_or}
use mathlib.Core.Path.{refl, sym, ap, ap₂, ◌∙◌}
use mathlib.Core.List.{append_assoc, append-nil}
use native.Mathlib.Nat.{add_assoc, add-sub_cancel_left, add-zero, add-suc, zero-add}
use native.Mathlib.Omega.{arith}
use borrow.Author.Tests.{eq-eqb, eqb-false, eqb-true, ne_eqb, le-ltb, lt-ltb, ltb-false, ltb-true}
use lib.ListN.{length-append}
use Rattle.laws.proofs.Cases.{ways}
use Rattle.register_log.specs.Log.{due_before, edition1, entry_place, write_at, writes_from}
use Rattle.register_log.specs.declared.Write.{Write}
use Rattle.vsu.proofs.MutesLaws.{cycle-mutes, mutes-keep, write-mutes}
use Rattle.vsu.proofs.RangeLaws.{cycle-keeps, power-on-in-range, small_at, write_keeps}
use Rattle.vsu.proofs.RunLaws.{frames-length, output-at}
use Rattle.common.specs.Bits.{bit}
use Rattle.six.specs.Core.{any_plays, plays, voice_at}
use Rattle.vsu.specs.Core.{all_at_most, cycle, decode_of, frames, frames_due, in_range, made, power_on, run, says, with_mutes, write, write_to}
use Rattle.vsu.specs.declared.unit.Said.{Said}
use Rattle.vsu.specs.declared.unit.Said.TheVariants as said
use Rattle.vsu.specs.declared.unit.Frame.{Frame}
use Rattle.vsu.specs.declared.unit.Register.{Register}
use Rattle.vsu.specs.declared.unit.Register.TheVariants as registers
use Rattle.vsu.specs.declared.unit.Vsu.{Vsu}
use Rattle.deck.specs.Unbroken.{Moment, apply_at, counts_of, frames_in, frames_of, frames_on, how_many, in_all, is_held, is_none, is_taken, moments_at, moments_in, moments_of, moments_on, run_on, state_at}

-- two spans are one

pub run-on-add : (ws : List Write) (c : ℕ) (u : Vsu) (m n : ℕ) → run_on ws c u (m + n) ≡ run_on ws (c + m) (run_on ws c u m) n
unfolding run_on
run-on-add ws c u m zero = rw add-zero
run-on-add ws c u m (suc n) =
    ap (run_on ws c u) (add-suc m n) ∙ ap₂ (λ (t : ℕ) (v : Vsu). cycle (apply_at ws t v)) (sym (add_assoc c m n)) (run-on-add ws c u m n)

-- what the cycles of a span give one after the other, frames or moments: f is told the cycle and the state before its writes
module _ {A : Type 0} (ws : List Write) (f : ℕ → Vsu → List A) (gives : ℕ → Vsu → ℕ → List A) (none : (c : ℕ) (u : Vsu) → gives c u 0 ≡ []) (more : (c : ℕ) (u : Vsu) (n : ℕ) → gives c u (suc n) ≡ gives c u n ++ f (c + n) (run_on ws c u n)) where
  span-add : (c : ℕ) (u : Vsu) (m n : ℕ) → gives c u (m + n) ≡ gives c u m ++ gives (c + m) (run_on ws c u m) n
  span-add c u m zero = rw (add-zero, none, append-nil)
  span-add c u m (suc n) =
      ap (gives c u) (add-suc m n)
      ∙ more c u (m + n)
      ∙ ap₂ (λ (xs : List A) (ys : List A). xs ++ ys) (span-add c u m n) (ap₂ f (sym (add_assoc c m n)) (run-on-add ws c u m n))
      ∙ append_assoc (gives c u m) (gives (c + m) (run_on ws c u m) n) _
      ∙ ap (λ (xs : List A). gives c u m ++ xs) (sym (more (c + m) (run_on ws c u m) n))

pub frames-on-add : (ws : List Write) (c : ℕ) (u : Vsu) (m n : ℕ) → frames_on ws c u (m + n) ≡ frames_on ws c u m ++ frames_on ws (c + m) (run_on ws c u m) n
unfolding frames_on
frames-on-add ws = span-add ws (λ (t : ℕ) (v : Vsu). made (apply_at ws t v)) (frames_on ws) (λ _ _. refl) (λ _ _ _. refl)

pub moments-on-add : (ws : List Write) (c : ℕ) (u : Vsu) (m n : ℕ) → moments_on ws c u (m + n) ≡ moments_on ws c u m ++ moments_on ws (c + m) (run_on ws c u m) n
unfolding moments_on
moments-on-add ws = span-add ws (moments_at ws) (moments_on ws) (λ _ _. refl) (λ _ _ _. refl)

-- past the first write, where it is due now: its moment is the present state, and the rest goes on from the state that it leaves

module _ (w : Write) (ws : List Write) (c : ℕ) (u : Vsu) (e : w.due ≡ c) where
  abbrev written : Vsu
  written = write w.address w.byte u

  pub run_past : (n : ℕ) → run_on (w ∷ ws) c u (suc n) ≡ run_on ws c written (suc n)
  unfolding run_on apply_at
  run_past zero = rw (eq-eqb w.due (c + 0) (omega arith))
  run_past (suc n) =
      rw (ne_eqb w.due (c + suc n) (omega arith)) (ap (λ (v : Vsu). cycle (apply_at ws (c + suc n) v)) (run_past n))

  pub frames-past : (n : ℕ) → frames_on (w ∷ ws) c u (suc n) ≡ frames_on ws c written (suc n)
  unfolding frames_on run_on apply_at
  frames-past zero = rw (eq-eqb w.due (c + 0) (omega arith))
  frames-past (suc n) =
      rw (ne_eqb w.due (c + suc n) (omega arith))
      (ap₂ (λ (fs : List Frame) (v : Vsu). fs ++ made (apply_at ws (c + suc n) v)) (frames-past n) (run_past n))

  pub moments-past : (n : ℕ) → moments_on (w ∷ ws) c u (suc n) ≡ record { entry = w; unit = u } ∷ moments_on ws c written (suc n)
  unfolding moments_on run_on moments_at
  moments-past zero = rw (eq-eqb w.due (c + 0) (omega arith))
  moments-past (suc n) =
      rw (ne_eqb w.due (c + suc n) (omega arith))
      (ap₂ (λ (ms : List Moment) (v : Vsu). ms ++ moments_at ws (c + suc n) v) (moments-past n) (run_past n))

-- an entry's moment is the state that the earlier ones of its cycle leave

abbrev at_moment : Write → Vsu → Moment
at_moment w u = record { entry = w; unit = u }

-- w and what comes after it, from u on
abbrev from_entry : Write → List Write → ℕ → Vsu → List Moment
from_entry w ws t u = at_moment w u ∷ moments_at ws t (write w.address w.byte u)

pub moment-is : (vs : List Write) (w : Write) (ws : List Write) (t : ℕ) (u : Vsu) → w.due ≡ t → moments_at (vs ++ w ∷ ws) t u ≡ moments_at vs t u ++ from_entry w ws t (apply_at vs t u)
unfolding moments_at apply_at
moment-is [] w ws t u e = rw (eq-eqb w.due t e)
moment-is (v ∷ vs) w ws t u e = go (eqb v.due t) (λ x. moment-is vs w ws t x e)
  where
    go : (b : Bool) → ((x : Vsu) → moments_at (vs ++ w ∷ ws) t x ≡ moments_at vs t x ++ from_entry w ws t (apply_at vs t x)) →
        cond b (from_entry v (vs ++ w ∷ ws) t u) (moments_at (vs ++ w ∷ ws) t u) ≡ cond b (from_entry v vs t u) (moments_at vs t u) ++ from_entry w ws t (apply_at vs t (cond b (write v.address v.byte u) u))
    go true r = ap (λ (ms : List Moment). at_moment v u ∷ ms) (r (write v.address v.byte u))
    go false r = r u

pub counts-append : (sort : Said → Bool) (ms ns : List Moment) → how_many sort (ms ++ ns) ≡ how_many sort ms + how_many sort ns
unfolding how_many
counts-append sort [] ns = omega arith
counts-append sort (m ∷ ms) ns = omega (arith, counts-append sort ms ns)

-- "all else moves as if unmuted": the writes due and the cycles of a span commute with setting the mutes, and each entry says what it
-- says without

module _ (m : ℕ) where
  written-mutes : (w : Write) (t : ℕ) (u : Vsu) → cond (eqb w.due t) (write w.address w.byte (with_mutes u m)) (with_mutes u m) ≡ with_mutes (cond (eqb w.due t) (write w.address w.byte u) u) m
  written-mutes w t u = go (eqb w.due t)
    where
      go : (e : Bool) → cond e (write w.address w.byte (with_mutes u m)) (with_mutes u m) ≡ with_mutes (cond e (write w.address w.byte u) u) m
      go true = write-mutes u m w.address w.byte
      go false = refl

  pub apply-mutes : (ws : List Write) (t : ℕ) (u : Vsu) → apply_at ws t (with_mutes u m) ≡ with_mutes (apply_at ws t u) m
  unfolding apply_at
  apply-mutes [] t u = refl
  apply-mutes (w ∷ ws) t u = ap (apply_at ws t) (written-mutes w t u) ∙ apply-mutes ws t _

  pub run-on-mutes : (ws : List Write) (c : ℕ) (u : Vsu) (n : ℕ) → run_on ws c (with_mutes u m) n ≡ with_mutes (run_on ws c u n) m
  unfolding run_on
  run-on-mutes ws c u zero = refl
  run-on-mutes ws c u (suc n) =
      ap (λ (v : Vsu). cycle (apply_at ws (c + n) v)) (run-on-mutes ws c u n)
      ∙ ap cycle (apply-mutes ws (c + n) (run_on ws c u n))
      ∙ cycle-mutes (apply_at ws (c + n) (run_on ws c u n)) m

  module _ (sort : Said → Bool) where
    said-mutes : (ws : List Write) (t : ℕ) (u : Vsu) → how_many sort (moments_at ws t (with_mutes u m)) ≡ how_many sort (moments_at ws t u)
    unfolding moments_at how_many
    said-mutes [] t u = refl
    said-mutes (w ∷ ws) t u = go (eqb w.due t) (said-mutes ws t (write w.address w.byte u)) (said-mutes ws t u)
      where
        go : (e : Bool) → how_many sort (moments_at ws t (with_mutes (write w.address w.byte u) m)) ≡ how_many sort (moments_at ws t (write w.address w.byte u)) → how_many sort (moments_at ws t (with_mutes u m)) ≡ how_many sort (moments_at ws t u) →
            how_many sort (cond e (record { entry = w; unit = with_mutes u m } ∷ moments_at ws t (write w.address w.byte (with_mutes u m))) (moments_at ws t (with_mutes u m))) ≡ how_many sort (cond e (record { entry = w; unit = u } ∷ moments_at ws t (write w.address w.byte u)) (moments_at ws t u))
        go true r s =
            ap (λ (k : ℕ). cond (sort (says w.address u)) 1 0 + k) (ap (λ (v : Vsu). how_many sort (moments_at ws t v)) (write-mutes u m w.address w.byte) ∙ r)
        go false r s = s

    pub counts-mutes : (ws : List Write) (c : ℕ) (u : Vsu) (n : ℕ) → how_many sort (moments_on ws c (with_mutes u m) n) ≡ how_many sort (moments_on ws c u n)
    unfolding moments_on
    counts-mutes ws c u zero = refl
    counts-mutes ws c u (suc n) =
        counts-append sort (moments_on ws c (with_mutes u m) n) _
        ∙ ap₂ (λ (j k : ℕ). j + k) (counts-mutes ws c u n) (ap (λ (v : Vsu). how_many sort (moments_at ws (c + n) v)) (run-on-mutes ws c u n) ∙ said-mutes ws (c + n) (run_on ws c u n))
        ∙ sym (counts-append sort (moments_on ws c u n) _)

-- the run from power-on is one of these

pub state-add : (ws : List Write) (c n : ℕ) → state_at ws (c + n) ≡ run_on ws c (state_at ws c) n
unfolding run_on state_at
state-add ws c zero = rw add-zero
state-add ws c (suc n) = ap (state_at ws) (add-suc c n) ∙ ap (λ (u : Vsu). cycle (apply_at ws (c + n) u)) (state-add ws c n)

pub state-run : (ws : List Write) (t : ℕ) → state_at ws t ≡ run_on ws 0 power_on t
unfolding state_at
state-run ws t = ap (state_at ws) (sym (zero-add t)) ∙ state-add ws 0 t

-- with mutes, its state n cycles on
pub state-add-mutes : (ws : List Write) (m c n : ℕ) → with_mutes (state_at ws (c + n)) m ≡ run_on ws c (with_mutes (state_at ws c) m) n
state-add-mutes ws m c n = ap (λ (u : Vsu). with_mutes u m) (state-add ws c n) ∙ sym (run-on-mutes m ws c (state_at ws c) n)

pub frames-of : (ws : List Write) (m a n : ℕ) → frames_of ws m a n ≡ frames_on ws a (with_mutes (state_at ws a) m) n
unfolding frames_of frames_on
frames-of ws m a zero = refl
frames-of ws m a (suc n) =
    ap₂ (λ (fs : List Frame) (u : Vsu). fs ++ made u) (frames-of ws m a n)
    (sym (apply-mutes m ws (a + n) (state_at ws (a + n))) ∙ ap (apply_at ws (a + n)) (state-add-mutes ws m a n))

pub frames-span : (ws : List Write) (m a n : ℕ) → frames_in ws m a (a + n) ≡ frames_on ws a (with_mutes (state_at ws a) m) n
frames-span ws m a n = rw (add-sub_cancel_left a n) (frames-of ws m a n)

pub moments-of : (ws : List Write) (a n : ℕ) → moments_of ws a n ≡ moments_on ws a (state_at ws a) n
unfolding moments_of moments_on
moments-of ws a zero = refl
moments-of ws a (suc n) =
    ap₂ (λ (ms : List Moment) (u : Vsu). ms ++ moments_at ws (a + n) u) (moments-of ws a n) (state-add ws a n)

pub moments-span : (ws : List Write) (a n : ℕ) → moments_in ws a (a + n) ≡ moments_on ws a (state_at ws a) n
moments-span ws a n = rw (add-sub_cancel_left a n) (moments-of ws a n)

pub counts-span : (ws : List Write) (m a n : ℕ) → counts_of (moments_on ws a (with_mutes (state_at ws a) m) n) ≡ counts_of (moments_in ws a (a + n))
counts-span ws m a n =
    rw (moments-span ws a n)
    (λ j.
    record {
      taken = counts-mutes m is_taken ws a (state_at ws a) n j;
      held = counts-mutes m is_held ws a (state_at ws a) n j;
      none = counts-mutes m is_none ws a (state_at ws a) n j;
    })

-- how many are due

pub due-none : (ws : List Write) → due_before ws 0 ≡ 0
unfolding due_before
due-none [] = refl
due-none (w ∷ ws) = rw (le-ltb w.due 0 (omega arith), due-none ws)

pub due-most : (ws : List Write) (c : ℕ) → due_before ws c ≤ length ws
unfolding due_before
due-most [] c = omega arith
due-most (w ∷ ws) c = ways (λ (k : ℕ). k + due_before ws c ≤ suc (length ws)) (ltb w.due c) (λ _. omega (arith, due-most ws c)) (λ _. omega (arith, due-most ws c))

-- the entries of a span are those due in it

due-next : (d t : ℕ) → cond (ltb d (suc t)) 1 0 ≡ cond (eqb d t) 1 0 + cond (ltb d t) 1 0
due-next d t =
    ways (λ (k : ℕ). cond (ltb d (suc t)) 1 0 ≡ k + cond (ltb d t) 1 0) (eqb d t)
    (λ e. let f : d ≡ t = eqb-true d t e in rw (lt-ltb d (suc t) (omega arith), le-ltb d t (omega arith)))
    (λ e. let f : d ≡ t → ⊥ = eqb-false d t e in go (ltb d t) refl f)
  where
    go : (b : Bool) → ltb d t ≡ b → (d ≡ t → ⊥) → cond (ltb d (suc t)) 1 0 ≡ 0 + cond (ltb d t) 1 0
    go true l n = rw (l, lt-ltb d (suc t) (omega (arith, ltb-true d t l)))
    go false l n = rw (l, le-ltb d (suc t) (omega (arith, ltb-false d t l)))

moments-at-length : (ws : List Write) (t : ℕ) (u : Vsu) → due_before ws (suc t) ≡ length (moments_at ws t u) + due_before ws t
unfolding moments_at due_before
moments-at-length [] t u = refl
moments-at-length (w ∷ ws) t u =
    rw (due-next w.due t)
    (ways (λ (ms : List Moment). cond (eqb w.due t) 1 0 + cond (ltb w.due t) 1 0 + due_before ws (suc t) ≡ length ms + (cond (ltb w.due t) 1 0 + due_before ws t)) (eqb w.due t)
    (λ e. rw e (omega (arith, moments-at-length ws t (write w.address w.byte u))))
    (λ e. rw e (omega (arith, moments-at-length ws t u))))

pub moments-on-length : (ws : List Write) (c : ℕ) (u : Vsu) (n : ℕ) → due_before ws (c + n) ≡ length (moments_on ws c u n) + due_before ws c
unfolding moments_on
moments-on-length ws c u zero = ap (due_before ws) (add-zero c) ∙ sym (zero-add (due_before ws c))
moments-on-length ws c u (suc n) =
    let ms : List Moment = moments_at ws (c + n) (run_on ws c u n) in
    ap (due_before ws) (add-suc c n)
    ∙ omega (arith, moments-at-length ws (c + n) (run_on ws c u n), moments-on-length ws c u n, length-append (moments_on ws c u n) ms)

-- each is of one sort: the three numbers add up

one-sort : (s : Said) → cond (is_taken s) 1 0 + cond (is_held s) 1 0 + cond (is_none s) 1 0 ≡ 1
one-sort said.Taken = refl
one-sort said.Held = refl
one-sort said.NoRegister = refl

pub in_all_lem : (ms : List Moment) → in_all (counts_of ms) ≡ length ms
unfolding how_many
in_all_lem [] = refl
in_all_lem (m ∷ ms) =
    omega (arith, one-sort (says m.entry.address m.unit), in_all_lem ms)

-- a state in range stays in range, and a write leaves the output counter

abbrev pub Bytes : List Write → Type 0
Bytes [] = Unit
Bytes (w ∷ ws) = (w.byte < 256) × Bytes ws

pub bytes-from : (b : List ℕ) → ((i : ℕ) → get_or b i 0 < 256) → (n i : ℕ) → Bytes (writes_from edition1 b n i)
unfolding writes_from write_at
bytes-from b h zero i = tt
bytes-from b h (suc n) i = (h (entry_place edition1 i + 6), bytes-from b h n (suc i))

pub bytes_of : (b : List ℕ) → all_at_most 255 b ≡ true → (n i : ℕ) → Bytes (writes_from edition1 b n i)
bytes_of b h = bytes-from b (λ i. omega (arith, small_at 255 b h i))

pub apply-keeps : (ws : List Write) (t : ℕ) (u : Vsu) → Bytes ws → in_range u ≡ true → in_range (apply_at ws t u) ≡ true
unfolding apply_at
apply-keeps [] t u b h = h
apply-keeps (w ∷ ws) t u b h =
    apply-keeps ws t _ b.1
    (ways (λ (v : Vsu). in_range v ≡ true) (eqb w.due t) (λ _. write_keeps u w.address w.byte b.0 h) (λ _. h))

pub run-on-keeps : (ws : List Write) (c : ℕ) (u : Vsu) (n : ℕ) → Bytes ws → in_range u ≡ true → in_range (run_on ws c u n) ≡ true
unfolding run_on
run-on-keeps ws c u zero b h = h
run-on-keeps ws c u (suc n) b h = cycle-keeps _ (apply-keeps ws (c + n) (run_on ws c u n) b (run-on-keeps ws c u n b h))

pub state-keeps : (ws : List Write) (t : ℕ) → Bytes ws → in_range (state_at ws t) ≡ true
state-keeps ws t b = rw (state-run ws t) (run-on-keeps ws 0 power_on t b power-on-in-range)

pub state-keeps-muted : (ws : List Write) (t m : ℕ) → Bytes ws → m ≤ 63 → in_range (with_mutes (state_at ws t) m) ≡ true
state-keeps-muted ws t m b l = mutes-keep (state_at ws t) m l (state-keeps ws t b)

abbrev Kept : Vsu → Vsu → Type 0
Kept u v = v.output ≡ u.output

write-output : (r : Register) (b : ℕ) (u : Vsu) → (write_to r b u).output ≡ u.output
unfolding write_to
write-output (registers.Wave at) b u = ways (Kept u) (any_plays u.voices) (λ _. refl) (λ _. refl)
write-output (registers.Modulation at) b u = ways (Kept u) (plays (voice_at 4 u.voices)) (λ _. refl) (λ _. refl)
write-output (registers.Channel k offset) b u = refl
write-output registers.Stop b u = ways (Kept u) (bit 0 b) (λ _. refl) (λ _. refl)
write-output registers.Nothing b u = refl

pub apply-output : (ws : List Write) (t : ℕ) (u : Vsu) → (apply_at ws t u).output ≡ u.output
unfolding apply_at
apply-output [] t u = refl
apply-output (w ∷ ws) t u =
    apply-output ws t _ ∙ ways (Kept u) (eqb w.due t) (λ _. write-output (decode_of w.address) w.byte u) (λ _. refl)

module _ (u : Vsu) (h : u.output ≤ 479) where
  cycle-output : (cycle u).output ≡ (u.output + 1) % 480
  unfolding run
  cycle-output = output-at u h 1

  made-count : length (made u) ≡ (u.output + 1) / 480
  unfolding run frames
  made-count = frames-length u h 1

module _ (ws : List Write) (c : ℕ) (u : Vsu) (h : u.output ≤ 479) where
  pub run-on-output : (n : ℕ) → (run_on ws c u n).output ≡ (u.output + n) % 480
  unfolding run_on
  run-on-output zero = omega arith
  run-on-output (suc n) =
      let e : (apply_at ws (c + n) (run_on ws c u n)).output ≡ (u.output + n) % 480 =
      apply-output ws (c + n) (run_on ws c u n) ∙ run-on-output n in
      omega (arith, cycle-output (apply_at ws (c + n) (run_on ws c u n)) (omega arith))

  pub frames-on-length : (n : ℕ) → length (frames_on ws c u n) ≡ frames_due u n
  unfolding frames_on
  frames-on-length zero = omega arith
  frames-on-length (suc n) =
      let e : (apply_at ws (c + n) (run_on ws c u n)).output ≡ (u.output + n) % 480 =
      apply-output ws (c + n) (run_on ws c u n) ∙ run-on-output n in
      length-append (frames_on ws c u n) (made (apply_at ws (c + n) (run_on ws c u n)))
      ∙ omega (arith, frames-on-length n, made-count (apply_at ws (c + n) (run_on ws c u n)) (omega arith))

-- Runs: what one turn of a run adds, the number of frames, and a run of m + n cycles as one of n after one of m.
use Rattle.std.specs.Prelude.{◌≡◌, ℕ, zero, suc, ◌+◌, ◌*◌, ◌%◌, ◌<◌, ◌≤◌, true, cond, List, [], ◌∷◌, ◌++◌, length, get_or, drop, set, ℤ}
use mathlib.Core.Path.{refl, sym, ap, ap₂, subst, ◌∙◌}
use mathlib.Core.List.{append_assoc, append-nil}
use native.Mathlib.Numerals.{add-one, add-two}
use native.Mathlib.Nat.{add-zero, add-suc}
use native.Mathlib.Omega.{arith}
use borrow.Author.Tests.{lt-leb, le-leb, leb-true, leb-false}
use lib.ListN.{length-append, length-drop}
use lib.Seq.{drop-cons}
use Rattle.laws.proofs.Cases.{ways}
use Rattle.voice.specs.declared.channel_enum.Voice.{Voice}
use Rattle.vsu.proofs.RangeLaws.{Side, range-facts, cycle-keeps, run-keeps, quiet-muted, frame-sides}
use Rattle.six.specs.Core.{silenced, sums_of, voices_after, voices_after_all}
use Rattle.vsu.specs.Core.{SmallSums, cycle, frame_of, makes_frame, frames, frames_due, in_range, made, run, sides}
use Rattle.vsu.specs.declared.unit.Frame.{Frame}
use Rattle.vsu.specs.declared.unit.Vsu.{Vsu}

-- a run leaves waves, modulation and mutes as they were

pub run-waves : (n : ℕ) (u : Vsu) → (run n u).waves ≡ u.waves
unfolding run cycle
run-waves zero u = refl
run-waves (suc n) u = run-waves n u

pub run-modulation : (n : ℕ) (u : Vsu) → (run n u).modulation ≡ u.modulation
unfolding run cycle
run-modulation zero u = refl
run-modulation (suc n) u = run-modulation n u

pub run-mutes : (n : ℕ) (u : Vsu) → (run n u).mutes ≡ u.mutes
unfolding run cycle
run-mutes zero u = refl
run-mutes (suc n) u = run-mutes n u

made-is : (w : Vsu) → 479 ≤ w.output → frame_of w.waves (silenced w.mutes (cycle w).voices) ∷ [] ≡ made w
unfolding made
made-is w h = rw (le-leb 480 (w.output + 1) (omega arith))

-- a run of m + n cycles

pub run-add : (m n : ℕ) (u : Vsu) → run (m + n) u ≡ run n (run m u)
unfolding run
run-add m zero u = rw add-zero
run-add m (suc n) u = rw add-suc (ap cycle (run-add m n u))

pub frames-add : (m n : ℕ) (u : Vsu) → frames (m + n) u ≡ frames m u ++ frames n (run m u)
unfolding frames
frames-add m zero u = rw (add-zero, append-nil)
frames-add m (suc n) u = rw (add-suc, frames-add m n u, run-add m n u, append_assoc)

-- n cycles in which no frame is made, and n of which the last makes one

module _ (u : Vsu) where
  pub voices-at : (n : ℕ) → (run n u).voices ≡ voices_after_all u.modulation n u.voices
  unfolding run cycle voices_after_all
  voices-at zero = refl
  voices-at (suc n) = ap₂ voices_after (run-modulation n u) (voices-at n)

  counts-at : (n : ℕ) → u.output + n < 480 → (run n u).output ≡ u.output + n
  unfolding run cycle
  counts-at zero h = omega arith
  counts-at (suc n) h = rw (counts-at n (omega arith), lt-leb 480 (u.output + n + 1) (omega arith)) (omega arith)

  none-at : (n : ℕ) → u.output + n < 480 → frames n u ≡ []
  unfolding frames made
  none-at zero h = refl
  none-at (suc n) h = rw (none-at n (omega arith), counts-at n (omega arith), lt-leb 480 (u.output + n + 1) (omega arith))

  frame_at : (n : ℕ) → 0 < n → u.output + n ≡ 480 → (run n u).output ≡ 0
  unfolding run cycle
  frame_at zero g h = absurd (omega arith)
  frame_at (suc n) g h = rw (counts-at n (omega arith), le-leb 480 (u.output + n + 1) (omega arith))

  one_at : (n : ℕ) → 0 < n → u.output + n ≡ 480 → frames n u ≡ frame_of u.waves (silenced u.mutes (run n u).voices) ∷ []
  unfolding frames run
  one_at zero g h = absurd (omega arith)
  one_at (suc n) g h =
      rw (none-at n (omega arith))
      (sym (made-is (run n u) (omega (arith, counts-at n (omega arith))))
      ∙ ap₂ (λ (w : List ℕ) (m : ℕ). frame_of w (silenced m (cycle (run n u)).voices) ∷ []) (run-waves n u) (run-mutes n u))

-- k cycles more, from what the loop of `step` holds

module _ (i k : ℕ) (u : Vsu) where
  pub next-voices : {vs ws : List Voice} → vs ≡ (run i u).voices → ws ≡ voices_after_all u.modulation k vs → ws ≡ (run (i + k) u).voices
  next-voices p q =
      q ∙ ap₂ (λ (m : List ℤ) (v : List Voice). voices_after_all m k v) (sym (run-modulation i u)) p
      ∙ sym (voices-at (run i u) k)
      ∙ ap (λ (v : Vsu). v.voices) (sym (run-add i k u))

  module _ {o : ℕ} (p : o ≡ (run i u).output) where
    pub next-counts : o + k < 480 → o + k ≡ (run (i + k) u).output
    next-counts h =
        ap (λ (n : ℕ). n + k) p ∙ sym (counts-at (run i u) k (omega (arith, p, h))) ∙ ap (λ (v : Vsu). v.output) (sym (run-add i k u))

    pub none_made : o + k < 480 → frames i u ≡ frames (i + k) u
    none_made h =
        sym (frames-add i k u ∙ ap (λ (fs : List Frame). frames i u ++ fs) (none-at (run i u) k (omega (arith, p, h))) ∙ append-nil (frames i u))

    module _ (g : 0 < k) (h : o + k ≡ 480) where
      pub next-frame : 0 ≡ (run (i + k) u).output
      next-frame = sym (frame_at (run i u) k g (omega (arith, p, h))) ∙ ap (λ (v : Vsu). v.output) (sym (run-add i k u))

      pub one-made : {f : Frame} {vs : List Voice} → vs ≡ (run (i + k) u).voices → f ≡ frame_of u.waves (silenced u.mutes vs) → frames i u ++ f ∷ [] ≡ frames (i + k) u
      one-made {f} v q =
          ap (λ (fs : List Frame). frames i u ++ fs)
          (ap (λ (x : Frame). x ∷ [])
          (q ∙ ap₂ frame_of (sym (run-waves i u)) (ap₂ silenced (sym (run-mutes i u)) (v ∙ ap (λ (w : Vsu). w.voices) (run-add i k u))))
          ∙ sym (one_at (run i u) k g (omega (arith, p, h))))
          ∙ sym (frames-add i k u)

module _ (i : ℕ) (u : Vsu) where
  pub run_is : {vs : List Voice} {o : ℕ} → vs ≡ (run i u).voices → o ≡ (run i u).output → ◌≡◌ {A = Vsu} (record { voices = vs; output = o; waves = u.waves; modulation = u.modulation; mutes = u.mutes }) (run i u)
  run_is p q =
      λ j. record { voices = p j; output = q j; waves = sym (run-waves i u) j; modulation = sym (run-modulation i u) j; mutes = sym (run-mutes i u) j }

-- the number of frames

made-length : (w : Vsu) → length (made w) ≡ cond (makes_frame w) 1 0
unfolding made
made-length w = ways (λ (l : List Frame). length l ≡ cond (makes_frame w) 1 0) (makes_frame w) (λ d. rw d) (λ d. rw d)

module _ (u : Vsu) (h : u.output ≤ 479) where
  pub output-at : (n : ℕ) → (run n u).output ≡ (u.output + n) % 480
  unfolding run cycle
  output-at zero = omega arith
  output-at (suc n) =
      ways (λ (o : ℕ). o ≡ (u.output + suc n) % 480) (makes_frame (run n u)) (λ d. omega (arith, output-at n, leb-true 480 ((run n u).output + 1) d))
      (λ d. omega (arith, output-at n, leb-false 480 ((run n u).output + 1) d))

  pub frames-length : (n : ℕ) → length (frames n u) ≡ frames_due u n
  unfolding frames
  frames-length zero = omega arith
  frames-length (suc n) =
      length-append (frames n u) (made (run n u)) ∙ ap (λ (k : ℕ). length (frames n u) + k) (made-length (run n u))
      ∙ ways (λ (k : ℕ). length (frames n u) + k ≡ frames_due u (suc n)) (makes_frame (run n u))
      (λ d. omega (arith, frames-length n, output-at n, leb-true 480 ((run n u).output + 1) d))
      (λ d. omega (arith, frames-length n, output-at n, leb-false 480 ((run n u).output + 1) d))

-- the buffer

pub sides-length : (fs : List Frame) → length (sides fs) ≡ length fs * 2
unfolding sides
sides-length [] = refl
sides-length (f ∷ fs) = omega (arith, sides-length fs)

pub sides-append : (fs gs : List Frame) → sides (fs ++ gs) ≡ sides fs ++ sides gs
unfolding sides
sides-append [] gs = refl
sides-append (f ∷ fs) gs = ap (λ (l : List ℤ). f.left ∷ f.right ∷ l) (sides-append fs gs)

-- one more frame goes behind those that stand at the front

two-set : (p : List ℤ) (x y l r : ℤ) (rest : List ℤ) → set (set (p ++ x ∷ y ∷ rest) (length p) l) (suc (length p)) r ≡ p ++ l ∷ r ∷ rest
two-set [] x y l r rest = refl
two-set (q ∷ p) x y l r rest = ap (λ (t : List ℤ). q ∷ t) (two-set p x y l r rest)

two-more : (l : List ℤ) (at : ℕ) (d : ℤ) → at + 1 < length l → drop at l ≡ get_or l at d ∷ get_or l (suc at) d ∷ drop (at + 2) l
two-more l at d h =
    drop-cons l at d (omega arith) ∙ ap (λ (t : List ℤ). get_or l at d ∷ t) (rw add-two (drop-cons l (suc at) d (omega arith)))

module _ (fs : List Frame) (f : Frame) (before : List ℤ) where
  joined : (rest : List ℤ) → sides (fs ++ f ∷ []) ++ rest ≡ sides fs ++ f.left ∷ f.right ∷ rest
  unfolding sides
  joined rest = ap (λ (t : List ℤ). t ++ rest) (sides-append fs (f ∷ [])) ∙ append_assoc (sides fs) (sides (f ∷ [])) rest

  pub front-more : {out : List ℤ} {at : ℕ} → at ≡ length (sides fs) → at + 1 < length before → out ≡ sides fs ++ drop at before → set (set out at f.left) (at + 1) f.right ≡ sides (fs ++ f ∷ []) ++ drop (at + 2) before
  front-more {out} {at} n h e =
      ap (λ (o : List ℤ). set (set o at f.left) (at + 1) f.right)
      (e ∙ ap (λ (t : List ℤ). sides fs ++ t) (two-more before at f.left h))
      ∙ rw (add-one, n) (two-set (sides fs) _ _ _ _ _)
      ∙ sym (joined (drop (at + 2) before))

  pub front-next : {at : ℕ} → at ≡ length (sides fs) → at + 2 ≡ length (sides (fs ++ f ∷ []))
  front-next e =
      omega (arith, sides-length (fs ++ f ∷ []), sides-length fs, length-append fs (f ∷ []))

-- a state in range: its buffer has room for each frame, and each frame's sums are small

pub front_length : (fs : List Frame) (before : List ℤ) {out : List ℤ} {at : ℕ} → at ≡ length (sides fs) → at ≤ length before → out ≡ sides fs ++ drop at before → length out ≡ length before
front_length fs before {out} {at} n h e =
    ap length e ∙ length-append (sides fs) (drop at before) ∙ omega (arith, length-drop at before)

module _ (u : Vsu) (h : in_range u ≡ true) where
  below : u.output ≤ 479
  below = (range-facts u h).output

  pub front_at : (i : ℕ) {at : ℕ} → at ≡ length (sides (frames i u)) → at ≡ frames_due u i * 2
  front_at i e = e ∙ sides-length (frames i u) ∙ ap (λ (k : ℕ). k * 2) (frames-length u below i)

  module _ (i n room : ℕ) {at : ℕ} (r : frames_due u n * 2 ≤ room) (e : at ≡ length (sides (frames i u))) where
    pub front-within : i ≤ n → at ≤ room
    front-within l = omega (arith, front_at i e)

    pub front-room : (k : ℕ) → i + k ≤ n → {o : ℕ} → o ≡ (run i u).output → o + k ≡ 480 → at + 1 < room
    front-room k l p g = omega (arith, front_at i e, output-at u below i)

  pub quiet_at : (n : ℕ) {vs : List Voice} → vs ≡ (run n u).voices → SmallSums (sums_of u.waves (silenced u.mutes vs))
  quiet_at n p =
      rw p
      (subst (λ (w : List ℕ). SmallSums (sums_of w (silenced u.mutes (run n u).voices))) (run-waves n u)
      (quiet-muted (run n u) (range-facts (run n u) (run-keeps n u h)) u.mutes))

-- every frame of a run from a state in range

abbrev pub Each : (Frame → Type 0) → List Frame → Type 0
Each P [] = Unit
Each P (f ∷ fs) = P f × Each P fs

each_append : (P : Frame → Type 0) (fs gs : List Frame) → Each P fs → Each P gs → Each P (fs ++ gs)
each_append P [] gs p q = q
each_append P (f ∷ fs) gs p q = (p.0, each_append P fs gs p.1 q)

abbrev pub Sides : Frame → Type 0
Sides f = Side f.left × Side f.right

made-sides : (w : Vsu) → in_range w ≡ true → Each Sides (made w)
unfolding made cycle
made-sides w h = ways (Each Sides) (makes_frame w) (λ _. (frame-sides (cycle w) (cycle-keeps w h) w.mutes, tt)) (λ _. tt)

pub frames-sides : (n : ℕ) (u : Vsu) → in_range u ≡ true → Each Sides (frames n u)
unfolding frames
frames-sides zero u h = tt
frames-sides (suc n) u h =
    each_append Sides (frames n u) (made (run n u)) (frames-sides n u h) (made-sides (run n u) (run-keeps n u h))

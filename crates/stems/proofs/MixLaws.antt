-- The mix and its stems: "Mixing cuts after adding: prove that mix less the sum of stems is, on each side of each frame, a multiple of 32
-- from 0 to 160."
use Prim.Native.Nat.{ℕ, zero, suc, ◌+◌, ◌-◌, ◌*◌, ◌/◌, ◌%◌, ◌<◌, ◌≤◌}
use mathlib.Core.Path.{◌≡◌, refl, sym, ap, ap₂, subst, ◌∙◌}
use mathlib.Core.Bool.{true, false}
use mathlib.Core.List.{List, [], ◌∷◌, map}
use native.Mathlib.Nat.{add-zero, zero-add}
use native.Mathlib.Omega.{arith}
use lib.IntN.{ℤ, pos, ◌+ℤ◌, ◌-ℤ◌, pos-+ℤ-pos, +ℤ-neg_ℤ_cancel}
use lib.ListN.{drop, get_or, length, get_or-append}
use Rattle.deck.proofs.UnbrokenLaws.{bytes_of, frames-on-length, run-on-keeps, run-on-mutes}
use Rattle.deck.specs.Player.{writes_in}
use Rattle.deck.specs.Unbroken.{frames_on}
use Rattle.deck.specs.declared.Player.{Player}
use Rattle.register_log.specs.Log.{count_of}
use Rattle.six.specs.Core.{off_wave, heard_left, heard_right, plays, silenced, silenced_from, sums_of, total, voice_at}
use Rattle.voice.specs.ChannelEnum.{heard, stop_voice}
use Rattle.voice.specs.declared.channel_enum.Voice.{Voice}
use Rattle.vsu.proofs.RangeLaws.{range-facts}
use Rattle.vsu.specs.Core.{all_at_most, frame_of, frame_side, frames_due, sides, with_mutes}
use Rattle.vsu.specs.declared.unit.Frame.{Frame}
use Rattle.stems.specs.Stems.{Buffers, Side, place_of, Remains, added_at, all_but, bounce_answer, bounce_by, bounce_of, framed, lent, less_stems, rendered, stems_from}
use Rattle.stems.specs.Stems.Side.{left, right}
use Rattle.stems.proofs.FrameLaws.{frame_at, frame_in, side-at, side-within, side_in}
use Rattle.stems.proofs.StemsLaws.{bounce-ranged, counter-below}
use Rattle.std.specs.Prelude.{Ok}
use Rattle.refusal.specs.Refusal.{Answer}

-- Numbers cut and then added, and added and then cut.

quotients : List ℕ → ℕ
quotients [] = 0
quotients (x ∷ xs) = x / 8 + quotients xs

remainders : List ℕ → ℕ
remainders [] = 0
remainders (x ∷ xs) = x % 8 + remainders xs

abbrev cut_each : List ℕ → ℤ
cut_each [] = pos 0
cut_each (x ∷ xs) = frame_side x +ℤ cut_each xs

total-is : (xs : List ℕ) → total xs ≡ quotients xs * 8 + remainders xs
unfolding quotients remainders
total-is [] = refl
total-is (x ∷ xs) = omega (arith, total-is xs)

few : (xs : List ℕ) → remainders xs ≤ length xs * 7
unfolding remainders
few [] = omega arith
few (x ∷ xs) = omega (arith, few xs)

cut-each : (xs : List ℕ) → cut_each xs ≡ pos (quotients xs * 32)
unfolding quotients
cut-each [] = refl
cut-each (x ∷ xs) = ap (λ (k : ℤ). frame_side x +ℤ k) (cut-each xs) ∙ pos-+ℤ-pos (x / 8 * 8 * 4) (quotients xs * 32) ∙ ap pos (omega arith)

-- the remainders of six come to 42 at most, which has five eights
cut-after : (xs : List ℕ) → length xs ≡ 6 → Remains (frame_side (total xs) -ℤ cut_each xs)
cut-after xs six =
    let q : ℕ = quotients xs in
    let r : ℕ = remainders xs in
    let m : total xs / 8 * 8 * 4 ≡ r / 8 * 32 + q * 32 = omega (arith, total-is xs) in
    record {
      times = r / 8;
      is =
          ap₂ (λ (k : ℤ) (t : ℤ). k -ℤ t) (ap pos m ∙ sym (pos-+ℤ-pos (r / 8 * 32) (q * 32))) (cut-each xs)
          ∙ +ℤ-neg_ℤ_cancel (pos (r / 8 * 32)) (pos (q * 32));
      most = omega (arith, few xs, six);
    }

-- One state: f is what a voice adds to a side, nothing where it does not play.

six-of : (P : List Voice → Type 0) → ((a c d e g h : Voice) → P (a ∷ c ∷ d ∷ e ∷ g ∷ h ∷ [])) → (vs : List Voice) → length vs ≡ 6 → P vs
six-of P k [] n = absurd (omega arith)
six-of P k (a ∷ []) n = absurd (omega arith)
six-of P k (a ∷ c ∷ []) n = absurd (omega arith)
six-of P k (a ∷ c ∷ d ∷ []) n = absurd (omega arith)
six-of P k (a ∷ c ∷ d ∷ e ∷ []) n = absurd (omega arith)
six-of P k (a ∷ c ∷ d ∷ e ∷ g ∷ []) n = absurd (omega arith)
six-of P k (a ∷ c ∷ d ∷ e ∷ g ∷ h ∷ []) n = k a c d e g h
six-of P k (a ∷ c ∷ d ∷ e ∷ g ∷ h ∷ i ∷ vs) n = absurd (omega arith)

module _ (f : Voice → ℕ) (y : (v : Voice) → plays v ≡ false → f v ≡ 0) where
  stopped : (v : Voice) → f (stop_voice v) ≡ 0
  stopped v = y (stop_voice v) refl

  -- what the voices add with these mutes
  abbrev sum_with : ℕ → List Voice → ℕ
  sum_with mutes vs = total (map f (silenced mutes vs))

  -- one voice is heard
  only : (a c d e g h : Voice) (k : ℕ) → k < 6 → sum_with (all_but k) (a ∷ c ∷ d ∷ e ∷ g ∷ h ∷ []) ≡ f (voice_at k (a ∷ c ∷ d ∷ e ∷ g ∷ h ∷ []))
  unfolding silenced_from
  only a c d e g h zero l = omega (arith, stopped c, stopped d, stopped e, stopped g, stopped h)
  only a c d e g h (suc zero) l = omega (arith, stopped a, stopped d, stopped e, stopped g, stopped h)
  only a c d e g h (suc (suc zero)) l = omega (arith, stopped a, stopped c, stopped e, stopped g, stopped h)
  only a c d e g h (suc (suc (suc zero))) l = omega (arith, stopped a, stopped c, stopped d, stopped g, stopped h)
  only a c d e g h (suc (suc (suc (suc zero)))) l = omega (arith, stopped a, stopped c, stopped d, stopped e, stopped h)
  only a c d e g h (suc (suc (suc (suc (suc zero))))) l = omega (arith, stopped a, stopped c, stopped d, stopped e, stopped g)
  only a c d e g h (suc (suc (suc (suc (suc (suc k)))))) l = absurd (omega arith)

  stem-of : (vs : List Voice) → length vs ≡ 6 → (k : ℕ) → k < 6 → sum_with (all_but k) vs ≡ f (voice_at k vs)
  stem-of vs six k l = six-of (λ (vs : List Voice). sum_with (all_but k) vs ≡ f (voice_at k vs)) (λ a c d e g h. only a c d e g h k l) vs six

  -- and with nothing muted all of them
  mix-of : (vs : List Voice) → length vs ≡ 6 → sum_with 0 vs ≡ total (map f vs)
  unfolding silenced_from
  mix-of vs six = six-of (λ (vs : List Voice). sum_with 0 vs ≡ total (map f vs)) (λ a c d e g h. refl) vs six

  -- where the others add nothing

  none-add : (vs : List Voice) → ((j : ℕ) → f (voice_at j vs) ≡ 0) → total (map f vs) ≡ 0
  none-add [] o = refl
  none-add (v ∷ vs) o = omega (arith, o 0, none-add vs (λ j. o (suc j)))

  one-adds : (vs : List Voice) (k : ℕ) → ((j : ℕ) → (j ≡ k → ⊥) → f (voice_at j vs) ≡ 0) → total (map f vs) ≡ f (voice_at k vs)
  one-adds [] k o = sym (y off_wave refl)
  one-adds (v ∷ vs) zero o = omega (arith, none-add vs (λ j. o (suc j) (λ e. omega (arith, e))))
  one-adds (v ∷ vs) (suc k) o =
      omega (arith, o 0 (λ e. omega (arith, e)), one-adds vs k (λ j n. o (suc j) (λ e. n (omega (arith, e)))))

  -- the sides of the six stems and of the mix
  stems-sides : (vs : List Voice) → length vs ≡ 6 →
      Remains (frame_side (sum_with 0 vs) -ℤ (frame_side (sum_with (all_but 0) vs) +ℤ (frame_side (sum_with (all_but 1) vs) +ℤ (frame_side (sum_with (all_but 2) vs) +ℤ (frame_side (sum_with (all_but 3) vs) +ℤ (frame_side (sum_with (all_but 4) vs) +ℤ (frame_side (sum_with (all_but 5) vs) +ℤ pos 0)))))))
  stems-sides vs six =
      rw (mix-of vs six, stem-of vs six 0 (omega arith), stem-of vs six 1 (omega arith), stem-of vs six 2 (omega arith), stem-of vs six 3 (omega arith), stem-of vs six 4 (omega arith), stem-of vs six 5 (omega arith))
      (six-of (λ (vs : List Voice). Remains (frame_side (total (map f vs)) -ℤ (frame_side (f (voice_at 0 vs)) +ℤ (frame_side (f (voice_at 1 vs)) +ℤ (frame_side (f (voice_at 2 vs)) +ℤ (frame_side (f (voice_at 3 vs)) +ℤ (frame_side (f (voice_at 4 vs)) +ℤ (frame_side (f (voice_at 5 vs)) +ℤ pos 0)))))))) (λ a c d e g h. cut-after (map f (a ∷ c ∷ d ∷ e ∷ g ∷ h ∷ [])) refl) vs six)

-- A call's buffers.

abbrev heard_on : Side → List ℕ → Voice → ℕ
heard_on left waves v = heard_left waves v
heard_on right waves v = heard_right waves v

heard-none : (s : Side) (waves : List ℕ) (v : Voice) → plays v ≡ false → heard_on s waves v ≡ 0
unfolding heard
heard-none left waves v h = rw h
heard-none right waves v h = rw h

side-sum : (s : Side) (waves : List ℕ) (vs : List Voice) → side_in s (frame_of waves vs) ≡ frame_side (total (map (heard_on s waves) vs))
unfolding frame_of sums_of
side-sum left waves vs = refl
side-sum right waves vs = refl

abbrev silent : Frame
silent = record { left = pos 0; right = pos 0 }

module _ (p : Player) (n : ℕ) (b : List ℕ) (mutes : ℕ) (out : List ℤ) (h : p.unit.output ≤ 479) (i : ℕ) (l : i < frames_due p.unit n) where
  fs : List Frame
  fs = frames_on (writes_in b) p.cycle (with_mutes p.unit mutes) n

  abbrev rest : List ℤ
  rest = drop (frames_due p.unit n * 2) out

  within : i < length fs
  unfolding fs
  within = rw (frames-on-length (writes_in b) p.cycle (with_mutes p.unit mutes) h n) l

  -- frame i with these mutes, by the state that it is the frame of
  frame-of : (d : Frame) → get_or fs i d ≡ frame_of (framed p b i).waves (silenced mutes (framed p b i).voices)
  unfolding fs
  frame-of d =
      frame_at (writes_in b) p.cycle (with_mutes p.unit mutes) h d n i l
      ∙ ap frame_in (run-on-mutes mutes (writes_in b) p.cycle p.unit (480 * suc i - p.unit.output))

  side-of : (s : Side) → get_or (rendered p n b mutes out) (place_of s i) (pos 0) ≡ frame_side (total (map (heard_on s (framed p b i).waves) (silenced mutes (framed p b i).voices)))
  unfolding rendered fs
  side-of s =
      get_or-append (sides fs) rest (pos 0) (place_of s i) (side-within s fs i within)
      ∙ side-at (pos 0) silent s fs i within
      ∙ ap (side_in s) (frame-of silent)
      ∙ side-sum s (framed p b i).waves (silenced mutes (framed p b i).voices)

-- stem k is rendered with all but channel k muted

stems-at : (p : Player) (n : ℕ) (b : List ℕ) (j k : ℕ) (ss : List (List ℤ)) → k < length ss → get_or (stems_from p n b j ss) k [] ≡ rendered p n b (all_but (j + k)) (get_or ss k [])
unfolding stems_from
stems-at p n b j k [] l = absurd (omega arith)
stems-at p n b j zero (s ∷ ss) l = rw (add-zero j)
stems-at p n b j (suc k) (s ∷ ss) l =
    let e : j + suc k ≡ suc j + k = omega arith in rw e (stems-at p n b (suc j) k ss (omega arith))

pub stem-at : (p : Player) (n : ℕ) (b : List ℕ) (k : ℕ) (ss : List (List ℤ)) → k < length ss → get_or (stems_from p n b 0 ss) k [] ≡ rendered p n b (all_but k) (get_or ss k [])
stem-at p n b k ss l = stems-at p n b 0 k ss l ∙ ap (λ (j : ℕ). rendered p n b (all_but j) (get_or ss k [])) (zero-add k)

-- Seven buffers, lent to a call that is accepted, with a log of bytes.

module _ (p : Player) (n : ℕ) (b : List ℕ) (small : all_at_most 255 b ≡ true) (one two three four five six mix : List ℤ) (accepted : bounce_answer p n b (lent one two three four five six mix) ≡ Ok tt) where
  -- what the call leaves in them
  abbrev bounced : Buffers
  bounced = (bounce_of p n b (lent one two three four five six mix)).out

  below : p.unit.output ≤ 479
  below = counter-below p n b (lent one two three four five six mix) accepted

  voices : (i : ℕ) → length (framed p b i).voices ≡ 6
  voices i =
      (range-facts (framed p b i) (run-on-keeps (writes_in b) p.cycle p.unit (480 * suc i - p.unit.output) (bytes_of b small (count_of b) 0) (bounce-ranged p n b (lent one two three four five six mix) accepted))).voices.six

  -- what holds of all that an accepted call leaves holds of them
  of-accepted : (P : Buffers → Type 0) → P (bounce_by (Ok tt) p n b (lent one two three four five six mix)).out → P bounced
  of-accepted P h = subst (λ (a : Answer). P (bounce_by a p n b (lent one two three four five six mix)).out) (sym accepted) h

  -- "mix less the sum of stems is, on each side of each frame, a multiple of 32 from 0 to 160"
  pub remainder : (s : Side) (i : ℕ) → i < frames_due p.unit n → Remains (less_stems (place_of s i) bounced)
  unfolding bounce_by stems_from added_at
  remainder s i l =
      of-accepted (λ (o : Buffers). Remains (less_stems (place_of s i) o))
      (rw (side-of p n b 0 mix below i l s, side-of p n b 62 one below i l s, side-of p n b 61 two below i l s, side-of p n b 59 three below i l s, side-of p n b 55 four below i l s, side-of p n b 47 five below i l s, side-of p n b 31 six below i l s)
      (stems-sides (heard_on s (framed p b i).waves) (heard-none s (framed p b i).waves) (framed p b i).voices (voices i)))

  -- Channel k's stem, at a side of frame i.

  module _ (k : ℕ) (few : k < 6) (s : Side) (i : ℕ) (l : i < frames_due p.unit n) where
    abbrev waves : List ℕ
    waves = (framed p b i).waves

    abbrev these : List Voice
    these = (framed p b i).voices

    stem-is : get_or (get_or (bounce_by (Ok tt) p n b (lent one two three four five six mix)).out.stems k []) (place_of s i) (pos 0) ≡ frame_side (heard_on s waves (voice_at k these))
    unfolding bounce_by
    stem-is =
        let own : List ℤ = get_or (one ∷ two ∷ three ∷ four ∷ five ∷ six ∷ []) k [] in
        ap (λ (o : List ℤ). get_or o (place_of s i) (pos 0)) (stem-at p n b k (one ∷ two ∷ three ∷ four ∷ five ∷ six ∷ []) few)
        ∙ side-of p n b (all_but k) own below i l s
        ∙ ap frame_side (stem-of (heard_on s waves) (heard-none s waves) these (voices i) k few)

    mix-is : get_or (bounce_by (Ok tt) p n b (lent one two three four five six mix)).out.mix (place_of s i) (pos 0) ≡ frame_side (total (map (heard_on s waves) these))
    unfolding bounce_by
    mix-is =
        side-of p n b 0 mix below i l s ∙ ap frame_side (mix-of (heard_on s waves) (heard-none s waves) these (voices i))

    -- the stem of a voice that does not play is silence
    pub silence : plays (voice_at k these) ≡ false → get_or (get_or bounced.stems k []) (place_of s i) (pos 0) ≡ pos 0
    silence h =
        of-accepted (λ (o : Buffers). get_or (get_or o.stems k []) (place_of s i) (pos 0) ≡ pos 0)
        (stem-is ∙ ap frame_side (heard-none s waves (voice_at k these) h))

    -- where one voice alone plays its stem is the mix
    pub alone : ((j : ℕ) → (j ≡ k → ⊥) → plays (voice_at j these) ≡ false) → get_or (get_or bounced.stems k []) (place_of s i) (pos 0) ≡ get_or bounced.mix (place_of s i) (pos 0)
    alone h =
        of-accepted (λ (o : Buffers). get_or (get_or o.stems k []) (place_of s i) (pos 0) ≡ get_or o.mix (place_of s i) (pos 0))
        (stem-is ∙ ap frame_side (sym (one-adds (heard_on s waves) (heard-none s waves) these k (λ j g. heard-none s waves (voice_at j these) (h j g)))) ∙ sym mix-is)

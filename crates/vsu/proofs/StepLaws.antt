-- What the loop of a run's `step` holds, and what a turn makes of it, whichever engine goes from frame to frame.
use Rattle.std.specs.Prelude.{◌≡◌, ℕ, ◌+◌, ◌-◌, ◌*◌, ◌%◌, ◌<◌, ◌≤◌, true, List, [], ◌∷◌, ◌++◌, length, drop, set, ℤ}
use mathlib.Core.Path.{refl, sym, ap, ◌∙◌}
use native.Mathlib.Omega.{arith}
use Rattle.six.specs.Core.{silenced, sums_of, voices_after_all, voices_in_range}
use Rattle.voice.specs.declared.channel_enum.Voice.{Voice}
use Rattle.vsu.proofs.RangeLaws.{range-facts, run-voices}
use Rattle.vsu.proofs.RunLaws as laws
use Rattle.vsu.specs.Core.{SmallSums, frame_of, frames, frames_due, in_range, run, sides}
use Rattle.vsu.specs.declared.unit.Frame.{Frame}
use Rattle.vsu.specs.declared.unit.Vsu.{Vsu}

-- i cycles of n in: the voices and the output counter are the run's, and the buffer, which held `before`, has the run's frames in front
pub record Stands (u : Vsu) (n : ℕ) (before : List ℤ) (i : ℕ) (voices : List Voice) (output at : ℕ) (out : List ℤ) : Type 0 where
  pub within : i ≤ n
  pub six : voices ≡ (run i u).voices
  pub counter : output ≡ (u.output + i) % 480
  pub place : at ≡ frames_due u i * 2
  pub buffer : out ≡ sides (frames i u) ++ drop at before

module _ {u : Vsu} (h : in_range u ≡ true) where
  pub begins : (n : ℕ) (before : List ℤ) → Stands u n before 0 u.voices u.output 0 before
  unfolding run frames sides
  begins n before =
      record { within = omega arith; six = refl; counter = omega (arith, (range-facts u h).output); place = omega (arith, (range-facts u h).output); buffer = refl }

  module _ {n : ℕ} {before : List ℤ} (r : frames_due u n * 2 ≤ length before) {i : ℕ} {voices : List Voice} {output at : ℕ} {out : List ℤ} (s : Stands u n before i voices output at out) where
    pub in-range : voices_in_range voices ≡ true
    in-range = rw s.six (run-voices i u h)

    counts : output ≡ (run i u).output
    counts = s.counter ∙ sym (laws.output-at u (range-facts u h).output i)

    places : at ≡ length (sides (frames i u))
    places = s.place ∙ sym (laws.front_at u h i refl)

    pub ends : n ≤ i → (◌≡◌ {A = Vsu} (record { voices = voices; output = output; waves = u.waves; modulation = u.modulation; mutes = u.mutes }) (run n u)) × (out ≡ sides (frames n u) ++ drop (frames_due u n * 2) before)
    ends l =
        let all : i ≡ n = omega (arith, s.within) in (
          laws.run_is i u s.six counts ∙ ap (λ (k : ℕ). run k u) all,
          s.buffer ∙ ap (λ (k : ℕ). sides (frames i u) ++ drop k before) s.place ∙ ap (λ (k : ℕ). sides (frames k u) ++ drop (frames_due u k * 2) before) all,
        )

    -- k cycles more, up to the next frame at most
    module _ (k : ℕ) {next : List Voice} (q : next ≡ voices_after_all u.modulation k voices) where
      on : next ≡ (run (i + k) u).voices
      on = laws.next-voices i k u s.six q

      pub sums : SmallSums (sums_of u.waves (silenced u.mutes next))
      sums = laws.quiet_at u h (i + k) on

      module _ (l : k ≤ n - i) where
        pub quiet-turn : output + k < 480 → Stands u n before (i + k) next (output + k) at out
        quiet-turn g =
            let e : frames i u ≡ frames (i + k) u = laws.none_made i k u counts g in
            record {
              within = omega (arith, s.within);
              six = on;
              counter = omega (arith, s.counter);
              place = omega (arith, s.counter, s.place);
              buffer = s.buffer ∙ ap (λ (fs : List Frame). sides fs ++ drop at before) e;
            }

        pub frame-turn : output + k ≡ 480 → {f : Frame} → f ≡ frame_of u.waves (silenced u.mutes next) → {x y : ℤ} → x ≡ f.left → y ≡ f.right → Stands u n before (i + k) next 0 (at + 2) (set (set out at x) (at + 1) y)
        frame-turn g {f} d a b =
            let z : 0 < k = omega (arith, s.counter) in
            let e : frames i u ++ f ∷ [] ≡ frames (i + k) u = laws.one-made i k u counts z g on d in
            let room : at + 1 < length before = omega (arith, r, s.counter, s.place, s.within) in
            record {
              within = omega (arith, s.within);
              six = on;
              counter = omega (arith, s.counter);
              place = omega (arith, s.counter, s.place);
              buffer = rw (a, b) (laws.front-more (frames i u) f before places room s.buffer ∙ ap (λ (fs : List Frame). sides fs ++ drop (at + 2) before) e);
            }

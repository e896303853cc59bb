-- Mutes: "a muted voice adds nothing to a frame, and all else moves as if unmuted".
use Rattle.std.specs.Prelude.{◌≡◌, ℕ, zero, suc, ◌≤◌, Bool, true, false, cond, List, [], ◌∷◌}
use mathlib.Core.Path.{refl, ap, ◌∙◌}
use Rattle.common.specs.Bits.{bit}
use Rattle.six.proofs.CoreLaws.{none-muted, sums-unmuted}
use Rattle.six.specs.Core.{any_plays, plays, silenced, unmuted, voice_at}
use Rattle.six.specs.declared.unit.Sums.{Sums}
use Rattle.voice.specs.declared.channel_enum.Voice.{Voice}
use Rattle.vsu.specs.Core.{cycle, decode_of, frame_of, frame_side, in_range, made, makes_frame, run, says, with_mutes, write, write_to}
use Rattle.vsu.specs.declared.unit.Frame.{Frame}
use Rattle.vsu.specs.declared.unit.Register.{Register}
use Rattle.vsu.specs.declared.unit.Register.TheVariants as registers
use Rattle.vsu.specs.declared.unit.Vsu.{Vsu}
use Rattle.vsu.proofs.RangeLaws.{range-facts, range-test}

-- "all else moves as if unmuted": a cycle, a write and a run commute with setting the mutes, and a write says what it says without

module _ (u : Vsu) (m : ℕ) where
  pub cycle-mutes : cycle (with_mutes u m) ≡ with_mutes (cycle u) m
  unfolding cycle
  cycle-mutes = refl

  either : (t : Bool) (v w : Vsu) → cond t (with_mutes v m) (with_mutes w m) ≡ with_mutes (cond t v w) m
  either true v w = refl
  either false v w = refl

  pub write-to-mutes : (r : Register) (b : ℕ) → write_to r b (with_mutes u m) ≡ with_mutes (write_to r b u) m
  unfolding write_to
  write-to-mutes (registers.Wave at) b = either (any_plays u.voices) u _
  write-to-mutes (registers.Modulation at) b = either (plays (voice_at 4 u.voices)) u _
  write-to-mutes (registers.Channel k offset) b = refl
  write-to-mutes registers.Stop b = either (bit 0 b) _ u
  write-to-mutes registers.Nothing b = refl

  pub write-mutes : (a b : ℕ) → write a b (with_mutes u m) ≡ with_mutes (write a b u) m
  write-mutes a b = write-to-mutes (decode_of a) b

  pub says-mutes : (a : ℕ) → says a (with_mutes u m) ≡ says a u
  says-mutes a = refl

pub run-with-mutes : (n : ℕ) (u : Vsu) (m : ℕ) → run n (with_mutes u m) ≡ with_mutes (run n u) m
unfolding run
run-with-mutes zero u m = refl
run-with-mutes (suc n) u m = ap cycle (run-with-mutes n u m) ∙ cycle-mutes (run n u) m

-- "a muted voice adds nothing to a frame": a frame with mutes is the frame of the voices that are not muted

pub frame-unmuted : (waves : List ℕ) (mutes : ℕ) (vs : List Voice) → frame_of waves (silenced mutes vs) ≡ frame_of waves (unmuted mutes vs)
unfolding frame_of
frame-unmuted waves mutes vs =
    ap (λ (s : Sums). record { left = frame_side s.left; right = frame_side s.right }) (sums-unmuted waves mutes vs)

pub made-unmuted : (u : Vsu) → made u ≡ cond (makes_frame u) (frame_of u.waves (unmuted u.mutes (cycle u).voices) ∷ []) []
unfolding made
made-unmuted u =
    ap (λ (f : Frame). cond (makes_frame u) (f ∷ []) []) (frame-unmuted u.waves u.mutes (cycle u).voices)

-- with nothing muted it is that of all six
pub frame-of-all : (waves : List ℕ) (vs : List Voice) → frame_of waves (silenced 0 vs) ≡ frame_of waves vs
frame-of-all waves vs = frame-unmuted waves 0 vs ∙ ap (frame_of waves) (none-muted 0 vs)

-- "range 0 to 63"
pub mutes-keep : (u : Vsu) (m : ℕ) → m ≤ 63 → in_range u ≡ true → in_range (with_mutes u m) ≡ true
mutes-keep u m l h =
    let k = range-facts u h in
    range-test (with_mutes u m)
    (record { voices = k.voices; waves = k.waves; small = k.small; entries = k.entries; bytes = k.bytes; output = k.output; mutes = l })

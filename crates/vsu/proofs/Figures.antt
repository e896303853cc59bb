-- Document 01, "Figures to prove as one table": each row is what the definitions compute beside what 01 says, and one theorem says that
-- the two are equal in every row.
use Rattle.std.specs.Prelude.{◌≡◌, ℕ, zero, suc, Bool, true, false, cond, List, [], ◌∷◌, ◌++◌, map, replicate, ℤ, pos}
use mathlib.Core.Path.{refl}
use Rattle.common.specs.Bits.{addend, signed}
use Rattle.common.specs.Channel.{amplitude_of, side}
use Rattle.voice.specs.ChannelEnum.{clocked, heard, sample_of, taps, voice_of}
use Rattle.sweep.specs.SweepModulate.{modulate_once, sweep_due, sweep_once}
use Rattle.voice.specs.Waveform.{sample_at}
use Rattle.common.specs.declared.channel.Channel.{Channel}
use Rattle.voice.specs.declared.channel_enum.Kind.{Kind}
use Rattle.voice.specs.declared.channel_enum.Kind.TheVariants.{Wave, Swept, Noise}
use Rattle.voice.specs.declared.channel_enum.Voice.{Voice}
use Rattle.sweep.specs.declared.sweep_modulate.SweepModulate.{SweepModulate}
use Rattle.sweep.specs.declared.sweep_modulate.Stepped.{Stepped}
use Rattle.six.specs.Core.{sums_of}
use Rattle.vsu.specs.Core.{frame_of, frame_side}

-- a noise's shift after n clocks

shift_of : Kind → ℕ
shift_of (Wave bank position) = 0
shift_of (Swept bank position sweep) = 0
shift_of (Noise shift tap output) = shift

clocks : ℕ → ℕ → ℕ → ℕ
clocks zero tap shift = shift
clocks (suc n) tap shift = shift_of (clocked (clocks n tap shift) tap)

-- channels that play at full level and volume: four waves, one with sweep, one noise with its output on

loud : Channel
loud =
    record {
      live = record { tick = 0; interval = 0; counter = 0; auto = false; playing = true };
      pitch = record { tick = 0; frequency = 0; counter = 0 };
      envelope = record { tick = 0; interval = 0; step = 0; level = 15; reload = 0; up = false; on = false; looped = false };
      left = 15;
      right = 15;
    }

-- enabled, interval 1, shift 1, up, without loop
sweep_at : Bool → ℕ → ℕ → ℕ → SweepModulate
sweep_at modulate last next index =
    record {
      step = 0;
      last = last;
      current = 0;
      next = next;
      interval = 1;
      shift = 1;
      counter = 0;
      index = index;
      enable = true;
      looped = false;
      modulate = modulate;
      slow = false;
      up = true;
    }

six : List Voice
six =
    replicate 4 (voice_of loud (Wave 0 0)) ++ voice_of loud (Swept 0 0 (sweep_at false 0 0 0)) ∷ voice_of loud (Noise 1 14 true) ∷ []

-- what channel 5's next sweep interval makes of it
swept : ℕ → Stepped
swept next = sweep_due (replicate 32 (pos 0)) loud (sweep_at false 0 next 0)

modulated : ℕ → ℕ → ℕ → Stepped
modulated last index entry = sweep_due (replicate 32 (signed entry)) loud (sweep_at true last 0 index)

bit_of : Bool → ℤ
bit_of b = cond b (pos 1) (pos 0)

pub record Figure : Type 0 where
  pub computed : ℤ
  pub said : ℤ

infix 4 ◌gives◌
abbrev ◌gives◌ : ℤ → ℤ → Figure
x gives y = record { computed = x; said = y }

pub table : List Figure
table =
    -- P1 level 15, volume 15, sample 63: 913; six: 21,888
    (pos (side 15 15 63) gives pos 913)
    ∷ ((frame_of (replicate 160 63) six).left gives pos 21888)
    ∷ ((frame_of (replicate 160 63) six).right gives pos 21888)
    -- P2 level 1, volume 1, sample 63: 31
    ∷ (pos (side 1 1 63) gives pos 31)
    -- P3 sum 7: 0, sum 8: 32
    ∷ (frame_side 7 gives pos 0)
    ∷ (frame_side 8 gives pos 32)
    -- P4 noise tap 14 from 0: 8 clocks 0xFF, 9 clocks 0x1FE
    ∷ (pos (clocks 8 14 0) gives pos 0xFF)
    ∷ (pos (clocks 9 14 0) gives pos 0x1FE)
    -- P5 tap 6: 8 clocks 0xFE
    ∷ (pos (clocks 8 6 0) gives pos 0xFE)
    -- P6 0x7FFF stays, with each of the eight taps
    ∷ map (λ (tap : ℕ). pos (clocks 1 tap 0x7FFF) gives pos 0x7FFF) taps
    -- P7 sweep up, shift 1: 1365 to 2047; 1366 stops (and the next frequency is kept)
    ++ (pos (swept 1365).sweep.next gives pos 2047)
    ∷ (bit_of (swept 1365).channel.live.playing gives pos 1)
    ∷ (bit_of (swept 1366).channel.live.playing gives pos 0)
    ∷ (pos (swept 1366).sweep.next gives pos 1366)
    -- P8 last 100, entry -128: 2020
    ∷ (pos (modulated 100 0 0x80).sweep.next gives pos 2020)
    -- P9 last 0, entry -1: 2047
    ∷ (pos (modulated 0 0 0xFF).sweep.next gives pos 2047)
    -- and beside these two an entry of 127: last 100: 227
    ∷ (pos (modulated 100 0 0x7F).sweep.next gives pos 227)
    -- P10 index 31, no loop: enable off, index 31
    ∷ (bit_of (modulated 0 31 0).sweep.enable gives pos 0)
    ∷ (pos (modulated 0 31 0).sweep.index gives pos 31)
    ∷ []

pub figures : map (λ (f : Figure). f.computed) table ≡ map (λ (f : Figure). f.said) table
unfolding table loud sweep_at six swept modulated bit_of clocks shift_of side amplitude_of frame_of sums_of heard sample_of sample_at clocked sweep_due sweep_once modulate_once addend signed
figures = refl

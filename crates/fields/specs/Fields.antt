-- A state as the list of its fields' values, in rising order of their offsets, and back.
use Rattle.std.specs.Prelude.{ℕ, ◌+◌, ◌-◌, ◌*◌, ◌%◌, Bool, cond, List, [], ◌∷◌, ◌++◌, map, take, drop, ℤ, pos, negsuc, ◌==◌, slice_index}
use Rattle.common.specs.Bits.{bit, signed}
use Rattle.common.specs.declared.channel.Channel.{Channel}
use Rattle.common.specs.declared.channel.Envelope.{Envelope}
use Rattle.common.specs.declared.channel.Live.{Live}
use Rattle.common.specs.declared.channel.Pitch.{Pitch}
use Rattle.voice.specs.ChannelEnum.{voice_of}
use Rattle.voice.specs.declared.channel_enum.Kind.{Kind}
use Rattle.voice.specs.declared.channel_enum.Kind.TheVariants.{Wave, Swept, Noise}
use Rattle.voice.specs.declared.channel_enum.Voice.{Voice}
use Rattle.sweep.specs.declared.sweep_modulate.SweepModulate.{SweepModulate}
use Rattle.vsu.specs.Core.{voice_at}
use Rattle.vsu.specs.declared.unit.Vsu.{Vsu}
use Rattle.table.specs.Table.{Edition, channel_from, modulation_from, mutes_field, output_field, sweep_from, waves_from}

-- From a state to its values.

abbrev pub bit_of : Bool → ℕ
bit_of b = cond b 1 0

-- "Flags count from bit 0, unused ones zero."
unfoldable pub flags_of : Bool → Bool → Bool → Bool → Bool → ℕ
flags_of a b c d e = bit_of a + 2 * bit_of b + 4 * bit_of c + 8 * bit_of d + 16 * bit_of e

-- the byte of a modulation entry: `negsuc e` is -(e + 1)
unfoldable pub byte_of : ℤ → ℕ
byte_of (pos e) = e
byte_of (negsuc e) = 255 - e

-- "+9 bank or tap"
unfoldable pub ninth_of : Kind → ℕ
ninth_of (Wave bank position) = bank
ninth_of (Swept bank position sweep) = bank
ninth_of (Noise shift tap output) = tap

-- "+10 position or output"
unfoldable pub tenth_of : Kind → ℕ
tenth_of (Wave bank position) = position
tenth_of (Swept bank position sweep) = position
tenth_of (Noise shift tap output) = bit_of output

-- "shift (zero for waves)"
unfoldable pub shift_of : Kind → ℕ
shift_of (Wave bank position) = 0
shift_of (Swept bank position sweep) = 0
shift_of (Noise shift tap output) = shift

-- "flags (auto-stop, play, up, envelope on, envelope loop)"
abbrev pub channel_flags : Channel → ℕ
channel_flags c =
    flags_of c.live.auto c.live.playing c.envelope.up c.envelope.on c.envelope.looped

unfoldable pub voice_fields : Voice → List ℕ
voice_fields v =
    let c : Channel = v.channel in
    channel_flags c ∷ c.live.interval ∷ c.live.counter ∷ c.left ∷ c.right ∷ c.envelope.level ∷ c.envelope.interval
    ∷ c.envelope.reload ∷ c.envelope.step ∷ ninth_of v.kind ∷ tenth_of v.kind ∷ 0 ∷ c.pitch.frequency
    ∷ c.pitch.counter ∷ c.live.tick ∷ c.pitch.tick ∷ c.envelope.tick ∷ shift_of v.kind ∷ 0 ∷ []

unfoldable pub blocks_of : List Voice → List ℕ
blocks_of [] = []
blocks_of (v ∷ vs) = voice_fields v ++ blocks_of vs

-- "flags (enable, loop, modulate, slow, up)"
abbrev pub sweep_flags : SweepModulate → ℕ
sweep_flags s = flags_of s.enable s.looped s.modulate s.slow s.up

-- the sweep, then the output counter, the mutes and zero; a voice of another kind has no sweep, and is out of range
unfoldable pub tail_fields : Kind → ℕ → ℕ → List ℕ
tail_fields (Wave bank position) output mutes = 0 ∷ 0 ∷ 0 ∷ 0 ∷ 0 ∷ 0 ∷ 0 ∷ 0 ∷ 0 ∷ 0 ∷ output ∷ mutes ∷ 0 ∷ []
tail_fields (Swept bank position s) output mutes =
    sweep_flags s ∷ s.interval ∷ s.shift ∷ s.counter ∷ s.step ∷ s.index ∷ 0 ∷ s.last ∷ s.current ∷ s.next ∷ output ∷ mutes ∷ 0
    ∷ []
tail_fields (Noise shift tap output·bit) output mutes = 0 ∷ 0 ∷ 0 ∷ 0 ∷ 0 ∷ 0 ∷ 0 ∷ 0 ∷ 0 ∷ 0 ∷ output ∷ mutes ∷ 0 ∷ []

-- the header's seven numbers: the largest values of its rows
abbrev pub header_fields : Edition → List ℕ
header_fields e = map (λ (i : ℕ). (e.rows i).most) (0 ∷ 1 ∷ 2 ∷ 3 ∷ 4 ∷ 5 ∷ 6 ∷ [])

unfoldable pub fields_of : Edition → Vsu → List ℕ
fields_of e u =
    header_fields e ++ (u.waves ++ (map byte_of u.modulation ++ (blocks_of u.voices ++ tail_fields (voice_at 4 u.voices).kind u.output u.mutes)))

-- From values to a state: `v` gives the values of a block, by their numbers in it. A byte of the state, or two, take the low part of a
-- value; those of an accepted image are no larger.

abbrev pub byte : ℕ → ℕ
byte value = value % 256

abbrev pub half : ℕ → ℕ
half value = value % 65536

unfoldable pub live_by : (ℕ → ℕ) → Live
live_by v =
    record {
      tick = v 14;
      interval = byte (v 1);
      counter = byte (v 2);
      auto = bit 0 (byte (v 0));
      playing = bit 1 (byte (v 0));
    }

unfoldable pub pitch_by : (ℕ → ℕ) → Pitch
pitch_by v = record { tick = v 15; frequency = half (v 12); counter = half (v 13) }

unfoldable pub envelope_by : (ℕ → ℕ) → Envelope
envelope_by v =
    record {
      tick = v 16;
      interval = byte (v 6);
      step = byte (v 8);
      level = byte (v 5);
      reload = byte (v 7);
      up = bit 2 (byte (v 0));
      on = bit 3 (byte (v 0));
      looped = bit 4 (byte (v 0));
    }

unfoldable pub channel_by : (ℕ → ℕ) → Channel
channel_by v =
    record { live = live_by v; pitch = pitch_by v; envelope = envelope_by v; left = byte (v 3); right = byte (v 4) }

unfoldable pub sweep_by : (ℕ → ℕ) → SweepModulate
sweep_by v =
    record {
      step = v 4;
      last = half (v 7);
      current = half (v 8);
      next = half (v 9);
      interval = byte (v 1);
      shift = byte (v 2);
      counter = byte (v 3);
      index = byte (v 5);
      enable = bit 0 (byte (v 0));
      looped = bit 1 (byte (v 0));
      modulate = bit 2 (byte (v 0));
      slow = bit 3 (byte (v 0));
      up = bit 4 (byte (v 0));
    }

unfoldable pub wave_by : (ℕ → ℕ) → Voice
wave_by v = voice_of (channel_by v) (Wave (byte (v 9)) (byte (v 10)))

unfoldable pub swept_by : (ℕ → ℕ) → (ℕ → ℕ) → Voice
swept_by v s = voice_of (channel_by v) (Swept (byte (v 9)) (byte (v 10)) (sweep_by s))

unfoldable pub noise_by : (ℕ → ℕ) → Voice
noise_by v = voice_of (channel_by v) (Noise (half (v 17)) (byte (v 9)) (byte (v 10) == 1))

-- the values from a field on
abbrev pub from : List ℕ → ℕ → ℕ → ℕ
from f at j = slice_index f (at + j)

-- the values of a channel
abbrev pub block : List ℕ → ℕ → ℕ → ℕ
block f k = from f (channel_from k)

unfoldable pub voices_by : List ℕ → List Voice
voices_by f =
    wave_by (block f 0) ∷ wave_by (block f 1) ∷ wave_by (block f 2) ∷ wave_by (block f 3) ∷ swept_by (block f 4) (from f sweep_from)
    ∷ noise_by (block f 5) ∷ []

abbrev pub entry_by : ℕ → ℤ
entry_by value = signed (byte value)

-- "edition 1 is still read, as nothing muted": the value there is its u16 zero
unfoldable pub state_of : List ℕ → Vsu
state_of f =
    record {
      voices = voices_by f;
      output = slice_index f output_field;
      waves = map byte (take 160 (drop waves_from f));
      modulation = map entry_by (take 32 (drop modulation_from f));
      mutes = byte (slice_index f mutes_field);
    }

-- A voice: a common record and its kind, in document 01's words.
use Rattle.std.specs.Prelude.{ℕ, ◌+◌, ◌*◌, ◌/◌, ◌%◌, ◌^◌, Bool, false, cond, ◌&&◌, ◌||◌, List, [], ◌∷◌, eqb, leb, get_or, ℤ}
use Rattle.std.specs.Bool.{beq}
use Rattle.common.specs.Bits.{bits}
use Rattle.common.specs.Channel.{play_off, with_live, with_pitch, with_envelope, channel_write, live_step, pitch_step, envelope_step, side, channel_in_range}
use Rattle.voice.specs.Constants.{wave_tick, noise_tick}
use Rattle.sweep.specs.SweepModulate.{sweep_write, sweep_step, sweep_in_range}
use Rattle.voice.specs.Waveform.{sample_at}
use Rattle.common.specs.declared.channel.Channel.{Channel}
use Rattle.common.specs.declared.channel.Pitched.{Pitched}
use Rattle.sweep.specs.declared.sweep_modulate.Stepped.{Stepped}
use Rattle.voice.specs.declared.channel_enum.Kind.{Kind}
use Rattle.voice.specs.declared.channel_enum.Kind.TheVariants.{Wave, Swept, Noise}
use Rattle.voice.specs.declared.channel_enum.Reading.{Reading}
use Rattle.voice.specs.declared.channel_enum.Voice.{Voice}

abbrev pub voice_of : Channel → Kind → Voice
voice_of c k = record { channel = c; kind = k }

-- what the stop register does to each of the six
abbrev pub stop_voice : Voice → Voice
stop_voice v = voice_of (play_off v.channel) v.kind

abbrev pub is_in : ℕ → List ℕ → Bool
is_in x [] = false
is_in x (y ∷ ys) = eqb x y || is_in x ys

-- Register writes.

-- "Noise: bits 4 to 6 choose tap 14, 10, 13, 4, 8, 6, 9, 11."
abbrev pub taps : List ℕ
taps = 14 ∷ 10 ∷ 13 ∷ 4 ∷ 8 ∷ 6 ∷ 9 ∷ 11 ∷ []

abbrev pub tap_of : ℕ → ℕ
tap_of b = get_or taps (bits 4 3 b) 0

-- 0x00: "wave position 0"; "0x18: wave channels, bank = byte mod 8."
unfoldable pub wave_write : ℕ → ℕ → ℕ → ℕ → Reading
wave_write offset b bank position =
    cond (eqb offset 0x00) (record { bank = bank; position = 0 })
    (cond (eqb offset 0x18) (record { bank = b % 8; position = position }) (record { bank = bank; position = position }))

-- 0x00: "noise shift 0 and output off"; 0x14 chooses the tap
unfoldable pub noise_write : ℕ → ℕ → ℕ → ℕ → Bool → Kind
noise_write offset b shift tap output =
    cond (eqb offset 0x00) (Noise 0 tap false) (cond (eqb offset 0x14) (Noise shift (tap_of b) output) (Noise shift tap output))

unfoldable pub kind_write : ℕ → ℕ → Kind → Kind
kind_write offset b (Wave bank position) =
    let r : Reading = wave_write offset b bank position in
    Wave r.bank r.position
kind_write offset b (Swept bank position sweep) =
    let r : Reading = wave_write offset b bank position in
    Swept r.bank r.position (sweep_write offset b sweep)
kind_write offset b (Noise shift tap output) = noise_write offset b shift tap output

unfoldable pub voice_write : ℕ → ℕ → Voice → Voice
voice_write offset b v = voice_of (channel_write offset b v.channel) (kind_write offset b v.kind)

-- The offsets that a kind has. "0x18 on noise, 0x1C except on channel 5, an offset not listed" is none.

abbrev pub common_offsets : List ℕ
common_offsets = 0x00 ∷ 0x04 ∷ 0x08 ∷ 0x0C ∷ 0x10 ∷ 0x14 ∷ []

unfoldable pub offsets_of : Kind → List ℕ
offsets_of (Wave bank position) = 0x18 ∷ common_offsets
offsets_of (Swept bank position sweep) = 0x1C ∷ 0x18 ∷ common_offsets
offsets_of (Noise shift tap output) = common_offsets

abbrev pub has_offset : ℕ → Kind → Bool
has_offset offset k = is_in offset (offsets_of k)

-- One cycle.

-- step 1
unfoldable pub step_auto_stop : Voice → Voice
step_auto_stop v = voice_of (with_live v.channel (live_step v.channel.live)) v.kind

-- "at 4 (noise 40)"
unfoldable pub period_of : Kind → ℕ
period_of (Wave bank position) = wave_tick
period_of (Swept bank position sweep) = wave_tick
period_of (Noise shift tap output) = noise_tick

-- "Channel 5 uses its current frequency."
unfoldable pub frequency_of : ℕ → Kind → ℕ
frequency_of written (Wave bank position) = written
frequency_of written (Swept bank position sweep) = sweep.current
frequency_of written (Noise shift tap output) = written

-- "new bit = not(bit 7 xor tap bit)"
abbrev pub new_bit : ℕ → ℕ → Bool
new_bit shift tap = eqb (shift / 2 ^ 7 % 2) (shift / 2 ^ tap % 2)

-- "shift = (2 × shift mod 32768) + new bit; output = new bit"
unfoldable pub clocked : ℕ → ℕ → Kind
clocked shift tap = Noise (2 * shift % 32768 + cond (new_bit shift tap) 1 0) tap (new_bit shift tap)

-- "Wave: position + 1 mod 32."
unfoldable pub next_sample : Kind → Kind
next_sample (Wave bank position) = Wave bank ((position + 1) % 32)
next_sample (Swept bank position sweep) = Swept bank ((position + 1) % 32) sweep
next_sample (Noise shift tap output) = clocked shift tap

-- step 2
unfoldable pub sampled : Voice → Pitched → Voice
sampled v p = voice_of (with_pitch v.channel p.pitch) (cond p.due (next_sample v.kind) v.kind)

unfoldable pub step_frequency : Voice → Voice
step_frequency v =
    sampled v (pitch_step (period_of v.kind) (frequency_of v.channel.pitch.frequency v.kind) v.channel.pitch)

-- step 3
unfoldable pub step_envelope : Voice → Voice
step_envelope v = voice_of (with_envelope v.channel (envelope_step v.channel.envelope)) v.kind

-- step 4, at channel 5 alone
unfoldable pub step_sweep_of : List ℤ → Channel → Kind → Voice
step_sweep_of entries c (Wave bank position) = voice_of c (Wave bank position)
step_sweep_of entries c (Swept bank position sweep) =
    let t : Stepped = sweep_step entries c sweep in
    voice_of t.channel (Swept bank position t.sweep)
step_sweep_of entries c (Noise shift tap output) = voice_of c (Noise shift tap output)

abbrev pub step_sweep : List ℤ → Voice → Voice
step_sweep entries v = step_sweep_of entries v.channel v.kind

-- The frame.

-- "The sample is 0 for banks 5 to 7; noise gives 63 or 0."
unfoldable pub sample_of : List ℕ → Kind → ℕ
sample_of waves (Wave bank position) = sample_at waves bank position
sample_of waves (Swept bank position sweep) = sample_at waves bank position
sample_of waves (Noise shift tap output) = cond output 63 0

-- "Add the playing voices": what a voice adds to a side, of which `volume` is the volume
unfoldable pub heard : List ℕ → ℕ → Voice → ℕ
heard waves volume v = cond v.channel.live.playing (side v.channel.envelope.level volume (sample_of waves v.kind)) 0

-- Range rules: "Channels 0 to 3 are wave, 4 wave with sweep, 5 noise".

-- "tap one of the eight"
abbrev pub is_tap : ℕ → Bool
is_tap t = is_in t taps

-- "bank 0..7" and a position of 0..31
unfoldable pub wave_kind_in_range : Kind → Bool
wave_kind_in_range (Wave bank position) = leb bank 7 && leb position 31
wave_kind_in_range (Swept bank position sweep) = false
wave_kind_in_range (Noise shift tap output) = false

unfoldable pub swept_kind_in_range : Kind → Bool
swept_kind_in_range (Wave bank position) = false
swept_kind_in_range (Swept bank position sweep) = leb bank 7 && leb position 31 && sweep_in_range sweep
swept_kind_in_range (Noise shift tap output) = false

-- "shift 0..32,767; tap one of the eight; noise output = lowest bit of shift"
unfoldable pub noise_kind_in_range : Kind → Bool
noise_kind_in_range (Wave bank position) = false
noise_kind_in_range (Swept bank position sweep) = false
noise_kind_in_range (Noise shift tap output) = leb shift 32767 && is_tap tap && beq output (eqb (shift % 2) 1)

-- "tick 0..3 or 0..39"
unfoldable pub wave_in_range : Voice → Bool
wave_in_range v = channel_in_range 3 v.channel && wave_kind_in_range v.kind

unfoldable pub swept_in_range : Voice → Bool
swept_in_range v = channel_in_range 3 v.channel && swept_kind_in_range v.kind

unfoldable pub noise_in_range : Voice → Bool
noise_in_range v = channel_in_range 39 v.channel && noise_kind_in_range v.kind

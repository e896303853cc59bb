-- The cycles that a voice takes at once, and the voice after them.
use Rattle.std.specs.Prelude.{ℕ, ◌≤◌, Bool, cond, ◌&&◌, leb, ltb}
use Rattle.common.specs.Constants.{envelope_tick}
use Rattle.common.specs.declared.channel.Pitch.{Pitch}
use Rattle.common.specs.Channel.{with_live, with_envelope, with_pitch}
use Rattle.voice.specs.ChannelEnum.{voice_of, period_of, frequency_of}
use Rattle.common.specs.declared.channel.Channel.{Channel}
use Rattle.voice.specs.declared.channel_enum.Kind.{Kind}
use Rattle.voice.specs.declared.channel_enum.Kind.TheVariants.{Wave, Swept, Noise}
use Rattle.voice.specs.declared.channel_enum.Voice.{Voice}
use Rattle.leaps.specs.Distance.{never, least}
use Rattle.leaps.specs.Live.{live_far, live_leap}
use Rattle.leaps.specs.Envelope.{envelope_far, envelope_leap}
use Rattle.leaps.specs.SweepModulate.{sweep_far, sweep_leap}
use Rattle.leaps.specs.Pitch.{Pitchable, pitch_after}
use Rattle.leaps.specs.Sample.{samples_on}
use Rattle.leaps.specs.declared.pitch.Sampled.{Sampled}

unfoldable pub kind_far : Kind → ℕ
kind_far (Wave bank position) = never
kind_far (Swept bank position sweep) = sweep_far sweep
kind_far (Noise shift tap output) = never

unfoldable pub voice_far : Voice → ℕ
voice_far v = least (least (live_far v.channel.live) (envelope_far v.channel.envelope)) (kind_far v.kind)

abbrev pub channel_leap : ℕ → Channel → Channel
channel_leap n c = with_envelope (with_live c (live_leap n c.live)) (envelope_leap n c.envelope)

unfoldable pub kind_leap : ℕ → Kind → Kind
kind_leap n (Wave bank position) = Wave bank position
kind_leap n (Swept bank position sweep) = Swept bank position (sweep_leap n sweep)
kind_leap n (Noise shift tap output) = Noise shift tap output

-- step 4
unfoldable pub swept_leap : ℕ → Voice → Voice
swept_leap n v = voice_of v.channel (kind_leap n v.kind)

-- step 2, of a voice whose kind is k
abbrev pub sampled_after : ℕ → Channel → Kind → Sampled
sampled_after n c k = pitch_after (period_of k) (frequency_of c.pitch.frequency k) n c.pitch

-- steps 1 to 3
unfoldable pub tone_leap : ℕ → Voice → Voice
tone_leap n v =
    let s : Sampled = sampled_after n v.channel v.kind in
    voice_of (with_pitch (channel_leap n v.channel) s.pitch) (samples_on s.samples v.kind)

abbrev pub voice_leap : ℕ → Voice → Voice
voice_leap n v = tone_leap n (swept_leap n v)

-- whether a pitch is in range
unfoldable pub pitchable : ℕ → ℕ → Pitch → Bool
pitchable period frequency p = ltb p.tick period && leb frequency 2047 && leb p.counter 2047

-- whether a voice can go n cycles at once: no further than it is far, and with ticks and counters in range; no sweep is further than 153,608
unfoldable pub leapable : ℕ → Voice → Bool
leapable n v =
    leb n (voice_far v) && leb n 153608 && ltb v.channel.envelope.tick envelope_tick
    && pitchable (period_of v.kind) (frequency_of v.channel.pitch.frequency v.kind) v.channel.pitch

unfoldable pub leap_of : ℕ → Voice → Voice
leap_of n v = cond (leapable n v) (voice_leap n v) v

-- The same as facts, for the inner functions.

pub record Playable (n : ℕ) (v : Voice) : Type 0 where
  pub live : n ≤ live_far v.channel.live
  pub tick : v.channel.envelope.tick ≤ 307218
  pub near : n ≤ 153608
  pub pitch : Pitchable (period_of v.kind) (frequency_of v.channel.pitch.frequency v.kind) v.channel.pitch

pub record Leapable (n : ℕ) (v : Voice) : Type 0 where
  pub tone : Playable n v
  pub swept : n ≤ kind_far v.kind

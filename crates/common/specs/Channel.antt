-- What each of the six voices has, in document 01's words: its register writes, its part in the steps of a cycle, its range rules.
use Rattle.std.specs.Prelude.{ℕ, ◌+◌, ◌-◌, ◌*◌, ◌/◌, Bool, true, false, cond, not, ◌&&◌, eqb, leb, ltb}
use Rattle.common.specs.Bits.{bits, bit, with_low, with_high}
use Rattle.common.specs.Constants.{live_tick, envelope_tick}
use Rattle.common.specs.declared.channel.Live.{Live}
use Rattle.common.specs.declared.channel.Pitch.{Pitch}
use Rattle.common.specs.declared.channel.Pitched.{Pitched}
use Rattle.common.specs.declared.channel.Envelope.{Envelope}
use Rattle.common.specs.declared.channel.Channel.{Channel}

-- A record with some of its fields changed: each name says which.

abbrev pub with_live : Channel → Live → Channel
with_live c l = record { live = l; pitch = c.pitch; envelope = c.envelope; left = c.left; right = c.right }

abbrev pub with_pitch : Channel → Pitch → Channel
with_pitch c p = record { live = c.live; pitch = p; envelope = c.envelope; left = c.left; right = c.right }

abbrev pub with_envelope : Channel → Envelope → Channel
with_envelope c e = record { live = c.live; pitch = c.pitch; envelope = e; left = c.left; right = c.right }

abbrev pub with_volumes : Channel → ℕ → ℕ → Channel
with_volumes c l r = record { live = c.live; pitch = c.pitch; envelope = c.envelope; left = l; right = r }

abbrev pub with_tick_counter_playing : Live → ℕ → ℕ → Bool → Live
with_tick_counter_playing l tick counter playing = record { tick = tick; interval = l.interval; counter = counter; auto = l.auto; playing = playing }

abbrev pub with_tick_counter : Pitch → ℕ → ℕ → Pitch
with_tick_counter p tick counter = record { tick = tick; frequency = p.frequency; counter = counter }

abbrev pub with_tick_step_level : Envelope → ℕ → ℕ → ℕ → Envelope
with_tick_step_level e tick step level =
    record { tick = tick; interval = e.interval; step = step; level = level; reload = e.reload; up = e.up; on = e.on; looped = e.looped }

-- "play off"
abbrev pub play_off : Channel → Channel
play_off c = with_live c (with_tick_counter_playing c.live c.live.tick c.live.counter false)

-- Register writes.

-- Offset 0x00: "bits 0 to 4 interval, 5 auto-stop, 7 play. Auto-stop counter becomes the interval; frequency counter and envelope step
-- become 0"; "Tick counters stay."
unfoldable pub write_interval : ℕ → Channel → Channel
write_interval b c =
    record {
      live = record { tick = c.live.tick; interval = bits 0 5 b; counter = bits 0 5 b; auto = bit 5 b; playing = bit 7 b };
      pitch = with_tick_counter c.pitch c.pitch.tick 0;
      envelope = with_tick_step_level c.envelope c.envelope.tick 0 c.envelope.level;
      left = c.left;
      right = c.right;
    }

-- "0x04: left volume high four bits, right low four."
unfoldable pub write_volumes : ℕ → Channel → Channel
write_volumes b c = with_volumes c (bits 4 4 b) (bits 0 4 b)

-- "0x08: low frequency byte."
unfoldable pub write_low : ℕ → Channel → Channel
write_low b c =
    with_pitch c (record { tick = c.pitch.tick; frequency = with_low b c.pitch.frequency; counter = c.pitch.counter })

-- "0x0C: bits 0 to 2 are frequency bits 8 to 10."
unfoldable pub write_high : ℕ → Channel → Channel
write_high b c =
    with_pitch c (record { tick = c.pitch.tick; frequency = with_high b c.pitch.frequency; counter = c.pitch.counter })

-- "0x10: bits 0 to 2 envelope interval, 3 up, 4 to 7 reload; the level becomes the reload."
unfoldable pub write_envelope : ℕ → Channel → Channel
write_envelope b c =
    with_envelope c
    (record {
      tick = c.envelope.tick;
      interval = bits 0 3 b;
      step = c.envelope.step;
      level = bits 4 4 b;
      reload = bits 4 4 b;
      up = bit 3 b;
      on = c.envelope.on;
      looped = c.envelope.looped;
    })

-- "0x14: bit 0 envelope on, 1 envelope loop."
unfoldable pub write_envelope_mode : ℕ → Channel → Channel
write_envelope_mode b c =
    with_envelope c
    (record {
      tick = c.envelope.tick;
      interval = c.envelope.interval;
      step = c.envelope.step;
      level = c.envelope.level;
      reload = c.envelope.reload;
      up = c.envelope.up;
      on = bit 0 b;
      looped = bit 1 b;
    })

-- "Offsets other than these do nothing"
unfoldable pub channel_write : ℕ → ℕ → Channel → Channel
channel_write offset b c =
    cond (eqb offset 0x00) (write_interval b c)
    (cond (eqb offset 0x04) (write_volumes b c)
    (cond (eqb offset 0x08) (write_low b c)
    (cond (eqb offset 0x0C) (write_high b c)
    (cond (eqb offset 0x10) (write_envelope b c)
    (cond (eqb offset 0x14) (write_envelope_mode b c) c)))))

-- One cycle.

-- "the counter goes up by 1; if that is at least interval + 1, play off and counter 0"
unfoldable pub live_ticked : Live → Live
live_ticked l = cond (leb (l.interval + 1) (l.counter + 1)) (with_tick_counter_playing l 0 0 false) (with_tick_counter_playing l 0 (l.counter + 1) l.playing)

-- "1. Each channel that plays with auto-stop: live tick +1; at 76,805 it becomes 0"
unfoldable pub live_step : Live → Live
live_step l =
    cond (l.playing && l.auto)
    (cond (leb live_tick (l.tick + 1)) (live_ticked l) (with_tick_counter_playing l (l.tick + 1) l.counter l.playing))
    l

-- "frequency counter +1; if that exceeds 2047 - frequency, counter 0 and next sample"
unfoldable pub pitch_ticked : ℕ → Pitch → Pitched
pitch_ticked frequency p =
    cond (ltb (2047 - frequency) (p.counter + 1)) (record { pitch = with_tick_counter p 0 0; due = true })
    (record { pitch = with_tick_counter p 0 (p.counter + 1); due = false })

-- "2. Each channel, playing or not: tick +1; at 4 (noise 40) tick 0"
unfoldable pub pitch_step : ℕ → ℕ → Pitch → Pitched
pitch_step period frequency p =
    cond (leb period (p.tick + 1)) (pitch_ticked frequency p) (record { pitch = with_tick_counter p (p.tick + 1) p.counter; due = false })

-- "the level goes one up (below 15) or down (above 0), else to the reload if looping"
unfoldable pub next_level : Envelope → ℕ
next_level e =
    cond (e.up && ltb e.level 15) (e.level + 1)
    (cond (not e.up && ltb 0 e.level) (e.level - 1) (cond e.looped e.reload e.level))

-- "with the envelope on, step +1; at interval + 1 or more step 0"
unfoldable pub envelope_ticked : Envelope → Envelope
envelope_ticked e =
    cond e.on
    (cond (leb (e.interval + 1) (e.step + 1)) (with_tick_step_level e 0 0 (next_level e)) (with_tick_step_level e 0 (e.step + 1) e.level))
    (with_tick_step_level e 0 e.step e.level)

-- "3. Each channel: envelope tick +1; at 307,219 tick 0"
unfoldable pub envelope_step : Envelope → Envelope
envelope_step e = cond (leb envelope_tick (e.tick + 1)) (envelope_ticked e) (with_tick_step_level e (e.tick + 1) e.step e.level)

-- "A side of a voice: a = level × volume / 8, cut, plus 1 if both are above 0; a × sample / 2, cut."
unfoldable pub amplitude_of : ℕ → ℕ → ℕ
amplitude_of level volume = level * volume / 8 + cond (ltb 0 level && ltb 0 volume) 1 0

unfoldable pub side : ℕ → ℕ → ℕ → ℕ
side level volume sample = amplitude_of level volume * sample / 2

-- Range rules.

-- "live interval and its counter 0..31; live tick 0..76,804"
unfoldable pub live_in_range : Live → Bool
live_in_range l = leb l.tick 76804 && leb l.interval 31 && leb l.counter 31

-- "frequencies and frequency counter 0..2047; tick 0..3 or 0..39"
unfoldable pub pitch_in_range : ℕ → Pitch → Bool
pitch_in_range most p = leb p.tick most && leb p.frequency 2047 && leb p.counter 2047

-- "envelope interval and step 0..7, tick 0..307,218"; level and reload 0..15
unfoldable pub envelope_in_range : Envelope → Bool
envelope_in_range e =
    leb e.tick 307218 && leb e.interval 7 && leb e.step 7 && leb e.level 15 && leb e.reload 15

-- the parts in range, and volumes 0..15
unfoldable pub channel_in_range : ℕ → Channel → Bool
channel_in_range most c =
    live_in_range c.live && pitch_in_range most c.pitch && envelope_in_range c.envelope && leb c.left 15 && leb c.right 15

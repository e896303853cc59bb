-- The cycles in which step 2 moves no more of a voice than its tick and frequency counter, the pitch after them, and after any number of cycles.
use Rattle.std.specs.Prelude.{ℕ, zero, suc, ◌+◌, ◌-◌, ◌*◌, ◌/◌, ◌%◌, ◌<◌, ◌≤◌, cond}
use Rattle.common.specs.Channel.{pitch_step, with_tick_counter}
use Rattle.common.specs.declared.channel.Pitch.{Pitch}
use Rattle.common.specs.declared.channel.Pitched.{Pitched}
use Rattle.leaps.specs.declared.pitch.Sampled.{Sampled}

-- a period, a frequency and a pitch in range
pub record Pitchable (period frequency : ℕ) (p : Pitch) : Type 0 where
  pub tick : p.tick < period
  pub short : period ≤ 40
  pub low : frequency ≤ 2047
  pub counter : p.counter ≤ 2047

unfoldable pub pitch_far : ℕ → ℕ → Pitch → ℕ
pitch_far period frequency p = (period - 1 - p.tick) + period * (2047 - (frequency + p.counter))

unfoldable pub pitch_leap : ℕ → ℕ → Pitch → Pitch
pitch_leap period n p = with_tick_counter p ((p.tick + n) % period) (p.counter + (p.tick + n) / period)

-- one more cycle
unfoldable pub pitch_more : ℕ → ℕ → Sampled → Sampled
pitch_more period frequency s =
    let t : Pitched = pitch_step period frequency s.pitch in
    record { pitch = t.pitch; samples = s.samples + cond t.due 1 0 }

-- n cycles: the pitch, and how many samples they bring
unfoldable pub pitch_after : ℕ → ℕ → ℕ → Pitch → Sampled
pitch_after period frequency zero p = record { pitch = p; samples = 0 }
pitch_after period frequency (suc n) p = pitch_more period frequency (pitch_after period frequency n p)

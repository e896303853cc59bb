-- The cycles in which step 3 moves no more of a voice than its envelope's tick, and the envelope after them.
use Rattle.std.specs.Prelude.{ℕ, ◌+◌, ◌-◌, ◌%◌, cond}
use Rattle.common.specs.Channel.{with_tick_step_level}
use Rattle.common.specs.Constants.{envelope_tick}
use Rattle.common.specs.declared.channel.Envelope.{Envelope}
use Rattle.leaps.specs.Distance.{never}

unfoldable pub envelope_far : Envelope → ℕ
envelope_far e = cond e.on (envelope_tick - 1 - e.tick) never

unfoldable pub envelope_leap : ℕ → Envelope → Envelope
envelope_leap n e = with_tick_step_level e ((e.tick + n) % envelope_tick) e.step e.level

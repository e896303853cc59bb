-- The cycles in which step 1 moves no more of a voice than its live tick, and the voice after them.
use Rattle.std.specs.Prelude.{ℕ, ◌+◌, ◌-◌, cond, ◌&&◌}
use Rattle.common.specs.Channel.{with_tick_counter_playing}
use Rattle.common.specs.Constants.{live_tick}
use Rattle.common.specs.declared.channel.Live.{Live}
use Rattle.leaps.specs.Distance.{never}

unfoldable pub live_far : Live → ℕ
live_far l = cond (l.playing && l.auto) (live_tick - 1 - l.tick) never

unfoldable pub live_leap : ℕ → Live → Live
live_leap n l = cond (l.playing && l.auto) (with_tick_counter_playing l (l.tick + n) l.counter l.playing) l

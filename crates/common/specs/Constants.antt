-- Document 01, "Cycle counts": "Live tick 76,805", "envelope 307,219".
use Rattle.std.specs.Prelude.{ℕ}

abbrev pub live_tick : ℕ
live_tick = 76805

abbrev pub envelope_tick : ℕ
envelope_tick = 307219

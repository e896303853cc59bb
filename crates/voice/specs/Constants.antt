-- Document 01, "Cycle counts": "wave tick 4; noise tick 40".
use Rattle.std.specs.Prelude.{ℕ}

abbrev pub wave_tick : ℕ
wave_tick = 4

abbrev pub noise_tick : ℕ
noise_tick = 40

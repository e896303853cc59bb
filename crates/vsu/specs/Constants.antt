-- Document 01, "Cycle counts": "frame 480".
use Rattle.std.specs.Prelude.{ℕ}

abbrev pub frame_tick : ℕ
frame_tick = 480

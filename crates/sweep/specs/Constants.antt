-- Document 01, "Cycle counts": "sweep slow 153,609, fast 19,201".
use Rattle.std.specs.Prelude.{ℕ}

abbrev pub sweep_slow : ℕ
sweep_slow = 153609

abbrev pub sweep_fast : ℕ
sweep_fast = 19201

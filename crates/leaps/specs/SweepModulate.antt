-- The cycles in which step 4 moves no more of channel 5 than its sweep's step counter, and the sweep after them.
use Rattle.std.specs.Prelude.{ℕ, ◌+◌, ◌-◌}
use Rattle.sweep.specs.SweepModulate.{sweep_period, with_step_counter}
use Rattle.sweep.specs.declared.sweep_modulate.SweepModulate.{SweepModulate}

unfoldable pub sweep_far : SweepModulate → ℕ
sweep_far s = sweep_period s - 1 - s.step

unfoldable pub sweep_leap : ℕ → SweepModulate → SweepModulate
sweep_leap n s = with_step_counter s (s.step + n) s.counter

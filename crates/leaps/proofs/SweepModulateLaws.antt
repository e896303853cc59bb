-- Step 4: before its distance no more moves than the step counter, by plain addition; at it the interval counter is due.
use Prim.Native.Nat.{ℕ, suc, ◌+◌, ◌-◌, ◌≤◌}
use mathlib.Core.Path.{◌≡◌, refl}
use mathlib.Core.Bool.{true, false}
use mathlib.Core.List.{List}
use native.Mathlib.Numerals.{add-one}
use native.Mathlib.Nat.{add-zero, add-suc}
use native.Mathlib.Omega.{arith}
use borrow.Author.Tests.{lt-leb, le-leb}
use lib.IntN.{ℤ}
use Rattle.laws.proofs.Cases.{ways}
use Rattle.common.specs.declared.channel.Channel.{Channel}
use Rattle.sweep.specs.SweepModulate.{sweep_period, sweep_step, sweep_ticked, with_step_counter}
use Rattle.sweep.specs.declared.sweep_modulate.Stepped.{Stepped}
use Rattle.sweep.specs.declared.sweep_modulate.SweepModulate.{SweepModulate}
use Rattle.leaps.specs.SweepModulate.{sweep_far, sweep_leap}

module _ (s : SweepModulate) where
  pub far-slow : s.slow ≡ true → 153608 - s.step ≡ sweep_far s
  unfolding sweep_far
  far-slow h = rw h

  pub far-fast : s.slow ≡ false → 19200 - s.step ≡ sweep_far s
  unfolding sweep_far
  far-fast h = rw h

  pub leap-is : (n : ℕ) → with_step_counter s (s.step + n) s.counter ≡ sweep_leap n s
  unfolding sweep_leap
  leap-is n = refl

  pub far-le : sweep_far s ≤ 153608 - s.step
  unfolding sweep_far
  far-le = ways (λ (period : ℕ). period - 1 - s.step ≤ 153608 - s.step) s.slow (λ _. omega arith) (λ _. omega arith)

  pub sweep-none : sweep_leap 0 s ≡ s
  unfolding sweep_leap
  sweep-none = rw add-zero

  module _ (entries : List ℤ) (c : Channel) where
    pub sweep-more : (n : ℕ) → suc n ≤ sweep_far s → ◌≡◌ {A = Stepped} (sweep_step entries c (sweep_leap n s)) (record { sweep = sweep_leap (suc n) s; channel = c })
    unfolding sweep_step sweep_leap sweep_far
    sweep-more n h = rw (lt-leb (sweep_period s) (s.step + n + 1) (omega arith), add-one, add-suc)

    -- "at its period or beyond it becomes 0 and the interval counter goes up"
    pub sweep-due : sweep_step entries c (sweep_leap (sweep_far s) s) ≡ sweep_ticked entries c (sweep_leap (sweep_far s) s)
    unfolding sweep_step sweep_far sweep_leap
    sweep-due = rw (le-leb (sweep_period s) (s.step + (sweep_period s - 1 - s.step) + 1) (omega arith))

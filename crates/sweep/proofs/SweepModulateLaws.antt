-- Laws of specs/SweepModulate.antt.
use Prim.Native.Nat.{ℕ, ◌+◌, ◌/◌, ◌^◌, ◌<◌, ◌≤◌}
use mathlib.Core.Path.{◌≡◌, refl, ap, ◌∙◌}
use mathlib.Core.Bool.{true, not, ◌&&◌}
use mathlib.Core.List.{List, [], ◌∷◌}
use native.Mathlib.Omega.{arith}
use borrow.Author.Tests.{le-leb, leb-true, leb-false, ltb-false}
use borrow.Author.Rules.{rules}
use lib.Dec.{eqb, leb, ltb}
use lib.IntN.{ℤ}
use lib.Signed.{mag}
use mir.Syntax.{w8}
use mir.Val.{to_z, of_z}
use mir.Facts.{to_z-of_z}
use Rattle.common.proofs.BitsLaws.{addend-lt}
use Rattle.laws.proofs.Cases.{each, ways}
use Rattle.common.specs.Bits.{addend}
use Rattle.common.specs.Channel.{channel_in_range, live_in_range}
use Rattle.sweep.specs.SweepModulate.{with_step_counter, with_frequencies, restart, rewrite, write_mode, write_sweep, sweep_write, modulate_once, sweep_once, sweep_due, sweep_ticked, sweep_period, sweep_step, sweep_in_range}
use Rattle.common.specs.declared.channel.Channel.{Channel}
use Rattle.sweep.specs.declared.sweep_modulate.Stepped.{Stepped}
use Rattle.sweep.specs.declared.sweep_modulate.SweepModulate.{SweepModulate}

-- An entry is handed to `bits::addend` through its bits.

module _ (e : ℤ) {up : ℕ} (f : mag e < 128) (q : up ≡ addend (to_z w8 (of_z w8 e))) where
  pub addend-is : up ≡ addend e
  addend-is = q ∙ ap addend (to_z-of_z {w = w8} (record { sfits = f }))

  pub addend_small : up < 2176
  addend_small = rw addend-is (addend-lt e (record { sfits = f }))

-- A state in range stays in range.

pub record SweepOk (s : SweepModulate) : Type 0 where
  pub step : s.step ≤ 153608
  pub last : s.last ≤ 2047
  pub current : s.current ≤ 2047
  pub next : s.next ≤ 2047
  pub interval : s.interval ≤ 7
  pub shift : s.shift ≤ 7
  pub counter : s.counter ≤ 6
  pub index : s.index ≤ 31

module _ (s : SweepModulate) where
  pub sweep-facts : sweep_in_range s ≡ true → SweepOk s
  unfolding sweep_in_range
  sweep-facts h =
      each
      (leb s.step 153608)
      (leb s.last 2047 ∷ leb s.current 2047 ∷ leb s.next 2047 ∷ leb s.interval 7 ∷ leb s.shift 7 ∷ leb s.counter 6 ∷ leb s.index 31 ∷ [])
      h
      (λ k. search (rules, leb-true))

  module _ (k : SweepOk s) where
    pub sweep-test : sweep_in_range s ≡ true
    unfolding sweep_in_range
    sweep-test =
        rw
        (le-leb _ _ k.step, le-leb _ _ k.last, le-leb _ _ k.current, le-leb _ _ k.next, le-leb _ _ k.interval, le-leb _ _ k.shift, le-leb _ _ k.counter, le-leb _ _ k.index)

    pub write-ok : (o b : ℕ) → b < 256 → SweepOk (sweep_write o b s)
    unfolding sweep_write restart rewrite write_mode write_sweep
    write-ok o b h =
        ways SweepOk (eqb o 0x00) (λ _. search rules) (λ _.
        ways SweepOk (eqb o 0x08) (λ _. search rules) (λ _.
        ways SweepOk (eqb o 0x0C) (λ _. search rules) (λ _.
        ways SweepOk (eqb o 0x14) (λ _. search rules) (λ _.
        ways SweepOk (eqb o 0x1C) (λ _. search rules) (λ _. k)))))

    pub modulated-ok : (entries : List ℤ) → SweepOk (modulate_once entries s)
    unfolding modulate_once
    modulated-ok entries = ways SweepOk (leb 31 s.index && not s.looped) (λ _. search rules) (λ _. search rules)

-- what a step leaves in range: the sweep, and the channel, which it stops at most
pub record StepOk (c : Channel) (r : Stepped) : Type 0 where
  pub sweep : SweepOk r.sweep
  pub channel : (most : ℕ) → channel_in_range most r.channel ≡ channel_in_range most c

module _ (c : Channel) where
  kept : {s : SweepModulate} → SweepOk s → StepOk c (record { sweep = s; channel = c })
  kept k = record { sweep = k; channel = λ most. refl }

  swept-ok : (s : SweepModulate) → SweepOk s → StepOk c (sweep_once c s)
  unfolding sweep_once channel_in_range live_in_range
  swept-ok s k =
      ways (StepOk c) s.up (λ _.
      ways (StepOk c) (ltb 2047 (s.current + s.current / 2 ^ s.shift)) (λ _. record { sweep = k; channel = λ most. refl }) (λ h.
      let f : s.current + s.current / 2 ^ s.shift ≤ 2047 = ltb-false _ _ h in kept (search rules)))
      (λ _. kept (search rules))

  module _ (entries : List ℤ) where
    due-ok : (s : SweepModulate) → SweepOk s → StepOk c (sweep_due entries c s)
    unfolding sweep_due
    due-ok s k =
        let l : SweepOk (with_frequencies s s.last s.next s.next) = search rules in
        ways (StepOk c) (c.live.playing && s.enable && not (eqb s.interval 0)) (λ _.
        ways (StepOk c) s.modulate (λ _. kept (modulated-ok _ l entries)) (λ _. swept-ok _ l))
        (λ _. kept l)

    pub step_ok : (s : SweepModulate) → SweepOk s → StepOk c (sweep_step entries c s)
    unfolding sweep_step sweep_ticked
    step_ok s k =
        ways (StepOk c) (leb (sweep_period s) (s.step + 1)) (λ _.
        ways (StepOk c) (leb s.interval (s.counter + 1)) (λ _. due-ok (with_step_counter s 0 0) (search rules)) (λ h.
        let f : s.counter + 1 < s.interval = leb-false _ _ h in kept (search rules))) (λ h.
        let f : s.step + 1 < sweep_period s = leb-false _ _ h in
        let g : sweep_period s ≤ 153609 = ways (λ n. n ≤ 153609) s.slow (λ _. omega arith) (λ _. omega arith) in
        kept (search rules))

module _ (s : SweepModulate) (h : sweep_in_range s ≡ true) where
  pub sweep-write-keeps : (o b : ℕ) → b < 256 → sweep_in_range (sweep_write o b s) ≡ true
  sweep-write-keeps o b l = sweep-test _ (write-ok s (sweep-facts s h) o b l)

  module _ (entries : List ℤ) (c : Channel) where
    pub sweep-step-keeps : sweep_in_range (sweep_step entries c s).sweep ≡ true
    sweep-step-keeps = sweep-test _ (step_ok c entries s (sweep-facts s h)).sweep

    pub sweep-step-channel : (most : ℕ) → channel_in_range most (sweep_step entries c s).channel ≡ channel_in_range most c
    sweep-step-channel = (step_ok c entries s (sweep-facts s h)).channel

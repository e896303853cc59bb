-- Step 3: before its distance no more moves than the tick, by plain addition, or round where the envelope is off; at it the step is due.
use Prim.Native.Nat.{ℕ, suc, ◌+◌, ◌-◌, ◌%◌, ◌<◌, ◌≤◌}
use mathlib.Core.Path.{◌≡◌, refl, sym, ap, ◌∙◌}
use mathlib.Core.Bool.{Bool, true, false}
use native.Mathlib.Omega.{arith}
use borrow.Author.Tests.{le-leb, leb-true, leb-false}
use Rattle.common.proofs.ChannelLaws.{envelope-counts, envelope-off}
use lib.Dec.{leb}
use Rattle.common.specs.Channel.{envelope_step, envelope_ticked, next_level, with_tick_step_level}
use Rattle.common.specs.declared.channel.Envelope.{Envelope}
use Rattle.leaps.specs.Distance.{never}
use Rattle.leaps.specs.Envelope.{envelope_far, envelope_leap}

module _ (e : Envelope) where
  pub far-on : e.on ≡ true → 307218 - e.tick ≡ envelope_far e
  unfolding envelope_far
  far-on o = rw o

  pub far-off : e.on ≡ false → never ≡ envelope_far e
  unfolding envelope_far
  far-off o = rw o

  pub leap-is : (n : ℕ) → with_tick_step_level e ((e.tick + n) % 307219) e.step e.level ≡ envelope_leap n e
  unfolding envelope_leap
  leap-is n = refl

  module _ (h : e.tick ≤ 307218) where
    pub envelope-none : envelope_leap 0 e ≡ e
    unfolding envelope_leap
    envelope-none = ap (λ (t : ℕ). with_tick_step_level e t e.step e.level) (omega arith)

    ticked : (t : ℕ) → 307218 ≤ t → envelope_step (with_tick_step_level e t e.step e.level) ≡ envelope_ticked e
    unfolding envelope_step envelope_ticked next_level
    ticked t k = rw (le-leb 307219 (t + 1) (omega arith))

    -- "at 307,219 tick 0, and with the envelope on, step +1"
    pub envelope-due : e.on ≡ true → envelope_step (envelope_leap (envelope_far e) e) ≡ envelope_ticked e
    unfolding envelope_leap
    envelope-due o = ticked ((e.tick + envelope_far e) % 307219) (omega (arith, far-on o))

    module _ (n : ℕ) where
      abbrev tick : ℕ
      tick = (e.tick + n) % 307219

      abbrev at : ℕ → Envelope
      at t = with_tick_step_level e t e.step e.level

      counts : tick < 307218 → envelope_step (at tick) ≡ at ((e.tick + suc n) % 307219)
      counts t = sym (envelope-counts (at tick) t) ∙ ap at (omega arith)

      goes-round : e.on ≡ false → 307218 ≤ tick → envelope_step (at tick) ≡ at ((e.tick + suc n) % 307219)
      goes-round o t = sym (envelope-off (at tick) t o) ∙ ap at (omega arith)

      pub envelope-more : suc n ≤ envelope_far e → envelope_step (envelope_leap n e) ≡ envelope_leap (suc n) e
      unfolding envelope_leap
      envelope-more k = go (leb 307219 (tick + 1)) refl e.on refl
        where
          go : (t : Bool) → leb 307219 (tick + 1) ≡ t → (o : Bool) → e.on ≡ o → envelope_step (at tick) ≡ at ((e.tick + suc n) % 307219)
          go false t o p = counts (omega (arith, leb-false 307219 (tick + 1) t))
          go true t true p = absurd (omega (arith, leb-true 307219 (tick + 1) t, far-on p))
          go true t false p = goes-round p (omega (arith, leb-true 307219 (tick + 1) t))

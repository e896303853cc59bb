-- Step 1: before its distance no more moves than the tick, by plain addition; at it the counter is due.
use Prim.Native.Nat.{ℕ, suc, ◌+◌, ◌-◌, ◌≤◌}
use mathlib.Core.Path.{◌≡◌, refl, sym, ap, ◌∙◌}
use mathlib.Core.Bool.{Bool, true, false, cond, ◌&&◌}
use native.Mathlib.Nat.{add-zero}
use native.Mathlib.Omega.{arith}
use borrow.Author.Tests.{le-leb}
use Rattle.common.proofs.ChannelLaws.{live-counts, live-still}
use Rattle.common.specs.Channel.{live_step, live_ticked, with_tick_counter_playing}
use Rattle.common.specs.declared.channel.Live.{Live}
use Rattle.leaps.specs.Distance.{never}
use Rattle.leaps.specs.Live.{live_far, live_leap}

module _ (l : Live) where
  module _ (p : (l.playing && l.auto) ≡ true) where
    pub far-ticks : 76804 - l.tick ≡ live_far l
    unfolding live_far
    far-ticks = rw p

    pub leap-ticks : (n : ℕ) → with_tick_counter_playing l (l.tick + n) l.counter l.playing ≡ live_leap n l
    unfolding live_leap
    leap-ticks n = rw p

    counts : (n : ℕ) → l.tick + suc n ≤ 76804 → live_step (live_leap n l) ≡ live_leap (suc n) l
    counts n h =
        ap live_step (sym (leap-ticks n)) ∙ sym (live-counts (with_tick_counter_playing l (l.tick + n) l.counter l.playing) p (omega arith))
        ∙ ap (λ (t : ℕ). with_tick_counter_playing l t l.counter l.playing) (omega arith)
        ∙ leap-ticks (suc n)

    ticked : (t : ℕ) → 76804 ≤ t → live_step (with_tick_counter_playing l t l.counter l.playing) ≡ live_ticked l
    unfolding live_step live_ticked
    ticked t h = rw (p, le-leb 76805 (t + 1) (omega arith))

    -- "at 76,805 it becomes 0 and the counter goes up by 1"
    pub live-due : live_step (live_leap (live_far l) l) ≡ live_ticked l
    live-due = ap live_step (sym (leap-ticks (live_far l))) ∙ ticked (l.tick + live_far l) (omega (arith, far-ticks))

  module _ (p : (l.playing && l.auto) ≡ false) where
    pub far-never : never ≡ live_far l
    unfolding live_far
    far-never = rw p

    pub leap-stays : (n : ℕ) → l ≡ live_leap n l
    unfolding live_leap
    leap-stays n = rw p

  pub live-none : live_leap 0 l ≡ l
  unfolding live_leap
  live-none = go (l.playing && l.auto)
    where
      go : (t : Bool) → cond t (with_tick_counter_playing l (l.tick + 0) l.counter l.playing) l ≡ l
      go true = rw add-zero
      go false = refl

  pub live_more : (n : ℕ) → suc n ≤ live_far l → live_step (live_leap n l) ≡ live_leap (suc n) l
  live_more n h = go (l.playing && l.auto) refl
    where
      go : (t : Bool) → (l.playing && l.auto) ≡ t → live_step (live_leap n l) ≡ live_leap (suc n) l
      go true p = counts p n (omega (arith, far-ticks p))
      go false p = ap live_step (sym (leap-stays p n)) ∙ sym (live-still l p) ∙ leap-stays p (suc n)

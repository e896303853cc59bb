-- The cases of the definitions of specs/Channel.antt, one law each, over plain variables; then, that a channel in range stays in range.
use Prim.Native.Nat.{ℕ, ◌+◌, ◌-◌, ◌*◌, ◌/◌, ◌<◌, ◌≤◌}
use mathlib.Core.Path.{◌≡◌, refl}
use mathlib.Core.Bool.{Bool, true, false, cond, not, ◌&&◌, and-eq-true_iff}
use mathlib.Core.List.{[], ◌∷◌}
use native.Mathlib.Nat.{le_trans, mul-le-mul_left, mul-le-mul_right}
use native.Mathlib.Omega.{arith}
use borrow.Author.Tests.{lt-leb, le-leb, lt-ltb, le-ltb, leb-true, leb-false, ltb-true, ltb-false}
use borrow.Author.Rules.{rules}
use lib.Dec.{eqb, leb, ltb}
use Rattle.laws.proofs.Cases.{each, ways}
use Rattle.common.specs.Channel.{play_off, with_live, with_pitch, with_envelope, live_in_range, pitch_in_range, envelope_in_range, channel_in_range, side, live_step, live_ticked, with_tick_counter_playing, pitch_step, pitch_ticked, with_tick_counter, envelope_step, envelope_ticked, with_tick_step_level, next_level, amplitude_of, channel_write, write_interval, write_volumes, write_low, write_high, write_envelope, write_envelope_mode}
use Rattle.common.specs.declared.channel.Channel.{Channel}
use Rattle.common.specs.declared.channel.Live.{Live}
use Rattle.common.specs.declared.channel.Pitch.{Pitch}
use Rattle.common.specs.declared.channel.Pitched.{Pitched}
use Rattle.common.specs.declared.channel.Envelope.{Envelope}

-- step 1

module _ (l : Live) where
  pub live-still : (l.playing && l.auto) ≡ false → l ≡ live_step l
  unfolding live_step
  live-still p = rw p

  module _ (p : (l.playing && l.auto) ≡ true) where
    pub live-counts : l.tick < 76804 → with_tick_counter_playing l (l.tick + 1) l.counter l.playing ≡ live_step l
    unfolding live_step
    live-counts t = rw (p, lt-leb 76805 (l.tick + 1) (omega arith))

-- step 2

module _ (p : Pitch) (frequency period : ℕ) where
  pub pitch-counts : p.tick + 1 < period → record { pitch = with_tick_counter p (p.tick + 1) p.counter; due = false } ≡ pitch_step period frequency p
  unfolding pitch_step
  pitch-counts t = rw (lt-leb period (p.tick + 1) t)

  module _ (t : period ≤ p.tick + 1) where
    pub pitch-ticks : p.counter + frequency < 2047 → record { pitch = with_tick_counter p 0 (p.counter + 1); due = false } ≡ pitch_step period frequency p
    unfolding pitch_step pitch_ticked
    pitch-ticks f = rw (le-leb period (p.tick + 1) t, le-ltb (2047 - frequency) (p.counter + 1) (omega arith))

    pub pitch-due : 2047 ≤ p.counter + frequency → record { pitch = with_tick_counter p 0 0; due = true } ≡ pitch_step period frequency p
    unfolding pitch_step pitch_ticked
    pitch-due f = rw (le-leb period (p.tick + 1) t, lt-ltb (2047 - frequency) (p.counter + 1) (omega arith))

  -- a step moves the tick and the counter
  pub pitch-frequency : (pitch_step period frequency p).pitch.frequency ≡ p.frequency
  unfolding pitch_step pitch_ticked
  pitch-frequency =
      ways (λ (q : Pitched). q.pitch.frequency ≡ p.frequency) (leb period (p.tick + 1)) (λ _.
      ways (λ (q : Pitched). q.pitch.frequency ≡ p.frequency) (ltb (2047 - frequency) (p.counter + 1)) (λ _. refl) (λ _. refl))
      (λ _. refl)

-- step 3

module _ (e : Envelope) where
  pub envelope-counts : e.tick < 307218 → with_tick_step_level e (e.tick + 1) e.step e.level ≡ envelope_step e
  unfolding envelope_step
  envelope-counts t = rw (lt-leb 307219 (e.tick + 1) (omega arith))

  module _ (t : 307218 ≤ e.tick) where
    pub envelope-off : e.on ≡ false → with_tick_step_level e 0 e.step e.level ≡ envelope_step e
    unfolding envelope_step envelope_ticked
    envelope-off o = rw (le-leb 307219 (e.tick + 1) (omega arith), o)

-- a side

pub product_le : {a b : ℕ} (m n : ℕ) → a ≤ m → b ≤ n → a * b ≤ m * n
product_le {a} {b} m n p q = le_trans (mul-le-mul_left a q) (mul-le-mul_right n p)

module _ (level volume : ℕ) where
  cond-le : (b : Bool) → cond b 1 0 ≤ 1
  cond-le true = omega arith
  cond-le false = omega arith

  pub amplitude-le : (m n : ℕ) → level ≤ m → volume ≤ n → amplitude_of level volume ≤ m * n / 8 + 1
  unfolding amplitude_of
  amplitude-le m n p q = omega (arith, product_le m n p q, cond-le (ltb 0 level && ltb 0 volume))

  -- document 01's most: level and volume 15, sample 63
  pub side-le : (sample : ℕ) → level ≤ 15 → volume ≤ 15 → sample ≤ 63 → side level volume sample ≤ 913
  unfolding side
  side-le sample l v s = omega (arith, product_le 29 63 (amplitude-le 15 15 l v) s)

-- A channel in range stays in range: its parts as bounds, what each step and each write makes of the bounds, and the same over the tests.

pub record LiveOk (l : Live) : Type 0 where
  pub tick : l.tick ≤ 76804
  pub interval : l.interval ≤ 31
  pub counter : l.counter ≤ 31

pub record PitchOk (most : ℕ) (p : Pitch) : Type 0 where
  pub tick : p.tick ≤ most
  pub frequency : p.frequency ≤ 2047
  pub counter : p.counter ≤ 2047

pub record EnvelopeOk (e : Envelope) : Type 0 where
  pub tick : e.tick ≤ 307218
  pub interval : e.interval ≤ 7
  pub step : e.step ≤ 7
  pub level : e.level ≤ 15
  pub reload : e.reload ≤ 15

pub record ChannelOk (most : ℕ) (c : Channel) : Type 0 where
  pub live : LiveOk c.live
  pub pitch : PitchOk most c.pitch
  pub envelope : EnvelopeOk c.envelope
  pub left : c.left ≤ 15
  pub right : c.right ≤ 15

live_facts : (l : Live) → live_in_range l ≡ true → LiveOk l
unfolding live_in_range
live_facts l h = each (leb l.tick 76804) (leb l.interval 31 ∷ leb l.counter 31 ∷ []) h (λ k. search (rules, leb-true))

live_test : {l : Live} → LiveOk l → live_in_range l ≡ true
unfolding live_in_range
live_test k = rw (le-leb _ _ k.tick, le-leb _ _ k.interval, le-leb _ _ k.counter)

live-ok : {l : Live} → LiveOk l → LiveOk (live_step l)
unfolding live_step live_ticked
live-ok {l} k =
    ways LiveOk (l.playing && l.auto) (λ _.
    ways LiveOk (leb 76805 (l.tick + 1)) (λ _.
    ways LiveOk (leb (l.interval + 1) (l.counter + 1)) (λ _. search rules) (λ h.
    let f : l.counter + 1 < l.interval + 1 = leb-false _ _ h in search rules)) (λ h.
    let f : l.tick + 1 < 76805 = leb-false _ _ h in search rules))
    (λ _. k)

pub live-keeps : (l : Live) → live_in_range l ≡ true → live_in_range (live_step l) ≡ true
live-keeps l h = live_test (live-ok (live_facts l h))

pitch-facts : (most : ℕ) (p : Pitch) → pitch_in_range most p ≡ true → PitchOk most p
unfolding pitch_in_range
pitch-facts most p h = each (leb p.tick most) (leb p.frequency 2047 ∷ leb p.counter 2047 ∷ []) h (λ k. search (rules, leb-true))

pitch-test : {most : ℕ} {p : Pitch} → PitchOk most p → pitch_in_range most p ≡ true
unfolding pitch_in_range
pitch-test k = rw (le-leb _ _ k.tick, le-leb _ _ k.frequency, le-leb _ _ k.counter)

module _ (period most frequency : ℕ) (p : Pitch) (t : period ≤ most + 1) where
  pitch-ok : PitchOk most p → PitchOk most (pitch_step period frequency p).pitch
  unfolding pitch_step pitch_ticked
  pitch-ok k =
      ways (λ (r : Pitched). PitchOk most r.pitch) (leb period (p.tick + 1)) (λ _.
      ways (λ (r : Pitched). PitchOk most r.pitch) (ltb (2047 - frequency) (p.counter + 1)) (λ _. search rules) (λ h.
      let f : p.counter + 1 ≤ 2047 - frequency = ltb-false _ _ h in search rules)) (λ h.
      let f : p.tick + 1 < period = leb-false _ _ h in search rules)

  pub pitch-keeps : pitch_in_range most p ≡ true → pitch_in_range most (pitch_step period frequency p).pitch ≡ true
  pitch-keeps h = pitch-test (pitch-ok (pitch-facts most p h))

envelope-facts : (e : Envelope) → envelope_in_range e ≡ true → EnvelopeOk e
unfolding envelope_in_range
envelope-facts e h =
    each (leb e.tick 307218) (leb e.interval 7 ∷ leb e.step 7 ∷ leb e.level 15 ∷ leb e.reload 15 ∷ []) h
    (λ k. search (rules, leb-true))

envelope-test : {e : Envelope} → EnvelopeOk e → envelope_in_range e ≡ true
unfolding envelope_in_range
envelope-test k =
    rw (le-leb _ _ k.tick, le-leb _ _ k.interval, le-leb _ _ k.step, le-leb _ _ k.level, le-leb _ _ k.reload)

next-level-le : {e : Envelope} → EnvelopeOk e → next_level e ≤ 15
unfolding next_level
next-level-le {e} k =
    ways (λ n. n ≤ 15) (e.up && ltb e.level 15) (λ h.
    let f : e.level < 15 = ltb-true _ _ ((and-eq-true_iff e.up (ltb e.level 15)).0 h).1 in omega arith) (λ _.
    ways (λ n. n ≤ 15) (not e.up && ltb 0 e.level) (λ _. omega arith) (λ _.
    ways (λ n. n ≤ 15) e.looped (λ _. omega arith) (λ _. omega arith)))

envelope-ok : {e : Envelope} → EnvelopeOk e → EnvelopeOk (envelope_step e)
unfolding envelope_step envelope_ticked
envelope-ok {e} k =
    ways EnvelopeOk (leb 307219 (e.tick + 1)) (λ _.
    ways EnvelopeOk e.on (λ _.
    ways EnvelopeOk (leb (e.interval + 1) (e.step + 1)) (λ _. search (rules, next-level-le)) (λ h.
    let f : e.step + 1 < e.interval + 1 = leb-false _ _ h in search rules)) (λ _. search rules)) (λ h.
    let f : e.tick + 1 < 307219 = leb-false _ _ h in search rules)

pub envelope-keeps : (e : Envelope) → envelope_in_range e ≡ true → envelope_in_range (envelope_step e) ≡ true
envelope-keeps e h = envelope-test (envelope-ok (envelope-facts e h))

pub channel-facts : (most : ℕ) (c : Channel) → channel_in_range most c ≡ true → ChannelOk most c
unfolding channel_in_range
channel-facts most c h =
    each (live_in_range c.live) (pitch_in_range most c.pitch ∷ envelope_in_range c.envelope ∷ leb c.left 15 ∷ leb c.right 15 ∷ []) h
    (λ k. search (rules, leb-true, live_facts, pitch-facts, envelope-facts))

channel-test : {most : ℕ} {c : Channel} → ChannelOk most c → channel_in_range most c ≡ true
unfolding channel_in_range
channel-test k =
    rw (live_test k.live, pitch-test k.pitch, envelope-test k.envelope, le-leb _ _ k.left, le-leb _ _ k.right)

write-ok : {most : ℕ} {c : Channel} → ChannelOk most c → (o b : ℕ) → b < 256 → ChannelOk most (channel_write o b c)
unfolding channel_write write_interval write_volumes write_low write_high write_envelope write_envelope_mode
write-ok {most} k o b l =
    ways (ChannelOk most) (eqb o 0x00) (λ _. search rules) (λ _.
    ways (ChannelOk most) (eqb o 0x04) (λ _. search rules) (λ _.
    ways (ChannelOk most) (eqb o 0x08) (λ _. search rules) (λ _.
    ways (ChannelOk most) (eqb o 0x0C) (λ _. search rules) (λ _.
    ways (ChannelOk most) (eqb o 0x10) (λ _. search rules) (λ _.
    ways (ChannelOk most) (eqb o 0x14) (λ _. search rules) (λ _. k))))))

-- the same of a whole channel, and the bounds that what it adds to a side wants

module _ (most : ℕ) (c : Channel) (h : channel_in_range most c ≡ true) where
  abbrev ok : ChannelOk most c
  ok = channel-facts most c h

  pub channel-live-keeps : channel_in_range most (with_live c (live_step c.live)) ≡ true
  channel-live-keeps = let k : ChannelOk most c = ok in channel-test (search (rules, live-ok))

  pub channel-pitch-keeps : (period frequency : ℕ) → period ≤ most + 1 → channel_in_range most (with_pitch c (pitch_step period frequency c.pitch).pitch) ≡ true
  channel-pitch-keeps period frequency t = let k : ChannelOk most c = ok in channel-test (search (rules, pitch-ok))

  pub channel-envelope-keeps : channel_in_range most (with_envelope c (envelope_step c.envelope)) ≡ true
  channel-envelope-keeps = let k : ChannelOk most c = ok in channel-test (search (rules, envelope-ok))

  pub channel-stop-keeps : channel_in_range most (play_off c) ≡ true
  unfolding channel_in_range live_in_range
  channel-stop-keeps = h

  pub channel-write-keeps : (o b : ℕ) → b < 256 → channel_in_range most (channel_write o b c) ≡ true
  channel-write-keeps o b l = channel-test (write-ok ok o b l)

  pub level-le : c.envelope.level ≤ 15
  level-le = ok.envelope.level

  pub left_le : c.left ≤ 15
  left_le = ok.left

  pub right_le : c.right ≤ 15
  right_le = ok.right

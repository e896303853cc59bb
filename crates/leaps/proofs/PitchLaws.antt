-- Step 2: before its distance no more moves than tick and frequency counter, by quotient and remainder of the tick; at it the next sample is
-- due. And n cycles from sample to sample. All of it over any period and frequency.
use Prim.Native.Nat.{ℕ, zero, suc, ◌+◌, ◌-◌, ◌*◌, ◌/◌, ◌%◌, ◌<◌, ◌≤◌}
use mathlib.Core.Path.{◌≡◌, refl, sym, ap, ap₂, ◌∙◌}
use mathlib.Core.Bool.{Bool, true, false, cond}
use native.Mathlib.Nat.{add-zero, add-suc, add_assoc, suc-mod, mod-lt, mod-eq_of_lt, mod_self, div-add-mod', div-eq_of_lt, div-eq_of_lt-le, div-lt_iff_lt-mul, lt_of_mul-lt-mul_left, mul_comm, zero-add, zero-mul, add-mul-mod_self_left, add-mul-div_left}
use native.Mathlib.Omega.{arith}
use borrow.Author.Tests.{leb-true, leb-false}
use lib.Dec.{leb}
use Rattle.common.proofs.ChannelLaws.{product_le, pitch-counts, pitch-ticks, pitch-due, pitch-frequency}
use Rattle.common.specs.Channel.{pitch_step, with_tick_counter}
use Rattle.common.specs.declared.channel.Pitch.{Pitch}
use Rattle.common.specs.declared.channel.Pitched.{Pitched}
use Rattle.leaps.specs.Pitch.{Pitchable, pitch_after, pitch_far, pitch_leap, pitch_more}
use Rattle.leaps.specs.declared.pitch.Sampled.{Sampled}

-- quotient and remainder, one on

module _ (t m : ℕ) where
  within-mod : t % m + 1 < m → suc t % m ≡ t % m + 1
  within-mod h = suc-mod t m ∙ mod-eq_of_lt (omega arith) ∙ omega arith

  within-div : t % m + 1 < m → suc t / m ≡ t / m
  within-div h = div-eq_of_lt-le m (omega (arith, div-add-mod' t m)) (omega (arith, div-add-mod' t m))

  module _ (z : 0 < m) (h : m ≤ t % m + 1) where
    last-mod : suc t % m ≡ 0
    last-mod =
        let e : suc (t % m) ≡ m = omega (arith, mod-lt t z) in
        suc-mod t m ∙ ap (λ (x : ℕ). x % m) e ∙ mod_self m

    last-div : suc t / m ≡ t / m + 1
    last-div =
        div-eq_of_lt-le m (omega (arith, div-add-mod' t m)) (omega (arith, div-add-mod' t m, mod-lt t z))

-- fewer ticks than are left until the counter is past 2047 - frequency
quotient-lt : (t m k : ℕ) → 0 < m → m ≤ t % m + 1 → suc t < m + m * k → t / m < k
quotient-lt t m k z h g = lt_of_mul-lt-mul_left m (rw mul_comm (omega (arith, div-add-mod' t m, mod-lt t z, mul_comm m k)))

pub leap-is : (period n : ℕ) (p : Pitch) → with_tick_counter p ((p.tick + n) % period) (p.counter + (p.tick + n) / period) ≡ pitch_leap period n p
unfolding pitch_leap
leap-is period n p = refl

module _ (period frequency : ℕ) (p : Pitch) where
  abbrev tick : ℕ → ℕ
  tick n = p.tick + n

  abbrev still : ℕ → ℕ → Pitched
  still t k = record { pitch = with_tick_counter p t k; due = false }

  pub pitch-none : p.tick < period → pitch_leap period 0 p ≡ p
  unfolding pitch_leap
  pitch-none h = rw (add-zero, mod-eq_of_lt h, div-eq_of_lt h, add-zero)

  module _ (h : p.tick < period) (n : ℕ) where
    counts : tick n % period + 1 < period → pitch_step period frequency (pitch_leap period n p) ≡ record { pitch = pitch_leap period (suc n) p; due = false }
    unfolding pitch_leap
    counts g =
        sym (pitch-counts (pitch_leap period n p) frequency period g)
        ∙ ap₂ still (sym (within-mod (tick n) period g) ∙ ap (λ (t : ℕ). t % period) (sym (add-suc p.tick n)))
        (ap (λ (q : ℕ). p.counter + q) (sym (within-div (tick n) period g) ∙ ap (λ (t : ℕ). t / period) (sym (add-suc p.tick n))))

    module _ (g : period ≤ tick n % period + 1) where
      ticks : p.counter + tick n / period + frequency < 2047 → pitch_step period frequency (pitch_leap period n p) ≡ record { pitch = pitch_leap period (suc n) p; due = false }
      unfolding pitch_leap
      ticks c =
          sym (pitch-ticks (pitch_leap period n p) frequency period g c)
          ∙ ap₂ still (sym (last-mod (tick n) period (omega arith) g) ∙ ap (λ (t : ℕ). t % period) (sym (add-suc p.tick n)))
          (omega (arith, last-div (tick n) period (omega arith) g, ap (λ (t : ℕ). t / period) (add-suc p.tick n)))

  -- before the distance: by quotient and remainder
  module _ (h : p.tick < period) where
    pub pitch-more : (n : ℕ) → suc n ≤ pitch_far period frequency p → pitch_step period frequency (pitch_leap period n p) ≡ record { pitch = pitch_leap period (suc n) p; due = false }
    unfolding pitch_far
    pitch-more n f = go (leb period (tick n % period + 1)) refl
      where
        go : (t : Bool) → leb period (tick n % period + 1) ≡ t → pitch_step period frequency (pitch_leap period n p) ≡ record { pitch = pitch_leap period (suc n) p; due = false }
        go false t = counts h n (leb-false period (tick n % period + 1) t)
        go true t =
            let g : period ≤ tick n % period + 1 = leb-true period (tick n % period + 1) t in
            ticks h n g (omega (arith, quotient-lt (tick n) period (2047 - (frequency + p.counter)) (omega arith) g (omega arith)))

    -- at it: "counter 0 and next sample"
    abbrev ticks_left : ℕ
    ticks_left = 2047 - (frequency + p.counter)

    at-end : p.tick + pitch_far period frequency p ≡ period - 1 + period * ticks_left
    unfolding pitch_far
    at-end = omega arith

    end-tick : period ≤ tick (pitch_far period frequency p) % period + 1
    end-tick =
        let e : tick (pitch_far period frequency p) % period ≡ period - 1 =
        ap (λ (t : ℕ). t % period) at-end ∙ add-mul-mod_self_left (period - 1) period ticks_left ∙ mod-eq_of_lt (omega arith) in
        omega (arith, e)

    end-count : tick (pitch_far period frequency p) / period ≡ ticks_left
    end-count =
        ap (λ (t : ℕ). t / period) at-end ∙ add-mul-div_left (period - 1) ticks_left (omega arith)
        ∙ ap (λ (x : ℕ). x + ticks_left) (div-eq_of_lt (omega arith)) ∙ omega arith

    pub pitch-at : pitch_step period frequency (pitch_leap period (pitch_far period frequency p) p) ≡ record { pitch = with_tick_counter p 0 0; due = true }
    unfolding pitch_leap
    pitch-at = sym (pitch-due (pitch_leap period (pitch_far period frequency p) p) frequency period end-tick (omega (arith, end-count)))

-- n cycles

abbrev pub shifted : ℕ → Sampled → Sampled
shifted k s = record { pitch = s.pitch; samples = k + s.samples }

abbrev plain : Pitch → Sampled
plain p = record { pitch = p; samples = 0 }

abbrev counted : ℕ → Pitched → Sampled
counted k t = record { pitch = t.pitch; samples = k + cond t.due 1 0 }

module _ (period frequency : ℕ) where
  abbrev after : ℕ → Pitch → Sampled
  after n p = pitch_after period frequency n p

  more-shifted : (k : ℕ) (s : Sampled) → pitch_more period frequency (shifted k s) ≡ shifted k (pitch_more period frequency s)
  unfolding pitch_more
  more-shifted k s = rw add_assoc

  pub after-frequency : (n : ℕ) (p : Pitch) → (pitch_after period frequency n p).pitch.frequency ≡ p.frequency
  unfolding pitch_after pitch_more
  after-frequency zero p = refl
  after-frequency (suc n) p = pitch-frequency (pitch_after period frequency n p).pitch frequency period ∙ after-frequency n p

  -- m cycles, then n
  after-add : (m n : ℕ) (p : Pitch) → pitch_after period frequency (m + n) p ≡ shifted (after m p).samples (pitch_after period frequency n (pitch_after period frequency m p).pitch)
  unfolding pitch_after pitch_more
  after-add m zero p = rw (add-zero, add-zero)
  after-add m (suc n) p =
      rw add-suc (ap (pitch_more period frequency) (after-add m n p) ∙ more-shifted (after m p).samples (after n (after m p).pitch))

  module _ (p : Pitch) (h : p.tick < period) where
    pub after-near : (n : ℕ) → n ≤ pitch_far period frequency p → pitch_after period frequency n p ≡ plain (pitch_leap period n p)
    unfolding pitch_after pitch_more
    after-near zero k = ap plain (sym (pitch-none period frequency p h))
    after-near (suc n) k =
        ap (pitch_more period frequency) (after-near n (omega arith)) ∙ ap (counted 0) (pitch-more period frequency p h n k)

    after-due : after (suc (pitch_far period frequency p)) p ≡ record { pitch = with_tick_counter p 0 0; samples = 1 }
    unfolding pitch_after pitch_more
    after-due =
        ap (pitch_more period frequency) (after-near (pitch_far period frequency p) (omega arith)) ∙ ap (counted 0) (pitch-at period frequency p h)

    -- the first sample of n cycles
    pub after_first : (n : ℕ) → pitch_far period frequency p < n → pitch_after period frequency n p ≡ shifted 1 (pitch_after period frequency (n - pitch_far period frequency p - 1) (with_tick_counter p 0 0))
    after_first n k =
        ap (λ (m : ℕ). pitch_after period frequency m p) (omega arith)
        ∙ after-add (suc (pitch_far period frequency p)) (n - pitch_far period frequency p - 1) p
        ∙ ap (λ (s : Sampled). shifted s.samples (pitch_after period frequency (n - pitch_far period frequency p - 1) s.pitch)) after-due

-- the numbers fit

module _ {period frequency : ℕ} {p : Pitch} (k : Pitchable period frequency p) where
  pub ticks-fit : {ticks : ℕ} → ticks ≡ 2047 - (frequency + p.counter) → period * ticks ≤ 81880
  ticks-fit e = product_le 40 2047 k.short (omega arith)

  pub far-is : {first ticks : ℕ} → first ≡ period - 1 - p.tick → ticks ≡ 2047 - (frequency + p.counter) → first + period * ticks ≡ pitch_far period frequency p
  unfolding pitch_far
  far-is f e = rw (f, e)

  pub far-le : pitch_far period frequency p ≤ 81919
  unfolding pitch_far
  far-le = omega (arith, ticks-fit refl, k.short)

  pub quotient_le : (n : ℕ) → n ≤ pitch_far period frequency p → (p.tick + n) / period ≤ 2047
  quotient_le n h =
      let t : 2047 - (frequency + p.counter) ≤ 2047 = omega arith in
      let l : p.tick + n < (2047 - (frequency + p.counter) + 1) * period = omega (arith, at-end period frequency p k.tick, mul_comm period (2047 - (frequency + p.counter)), k.tick) in
      let z : 0 < period = omega (arith, k.tick) in
      omega (arith, (div-lt_iff_lt-mul {k = period} {x = p.tick + n} {y = 2047 - (frequency + p.counter) + 1} z).1 l)

-- n cycles from sample to sample, by what `leap` holds: q is the pitch after a sample

module _ {period frequency : ℕ} {p q : Pitch} (k : Pitchable period frequency p) (r : q ≡ with_tick_counter p 0 0) where
  pub rest : Pitchable period frequency q
  rest = rw r (record { tick = omega (arith, k.tick); short = k.short; low = k.low; counter = omega arith })

  pub first-sample : (n : ℕ) {first : ℕ} → first ≡ pitch_far period frequency p → first < n → pitch_after period frequency n p ≡ shifted 1 (pitch_after period frequency (n - first - 1) q)
  first-sample n e h = rw (e, r) (after_first period frequency p k.tick n (rw e at h))

  module _ (m left : ℕ) {far : ℕ} (e : far ≡ pitch_far period frequency q) {s : Sampled} (i : s ≡ shifted m (pitch_after period frequency left q)) where
    pub next-sample : far + 1 ≤ left → s ≡ shifted (m + 1) (pitch_after period frequency (left - (far + 1)) q)
    next-sample g =
        let again : with_tick_counter q 0 0 ≡ q = rw r in
        i
        ∙ ap (shifted m)
        (after_first period frequency q rest.tick left (omega arith)
        ∙ ap₂ (λ (l : ℕ) (o : Pitch). shifted 1 (pitch_after period frequency l o)) (omega arith) again)
        ∙ ap (λ (x : ℕ). record { pitch = (pitch_after period frequency (left - (far + 1)) q).pitch; samples = x }) (sym (add_assoc m 1 (pitch_after period frequency (left - (far + 1)) q).samples))

    pub last-sample : left < far + 1 → {o : Pitch} → o ≡ pitch_leap period left q → record { pitch = o; samples = m } ≡ s
    last-sample g c =
        sym
        (i ∙ ap (shifted m) (after-near period frequency q rest.tick left (omega arith))
        ∙ (λ j. record { pitch = sym c j; samples = add-zero m j }))

  -- k samples on: k times their distance
  module _ {far : ℕ} (e : far ≡ pitch_far period frequency q) where
    next-samples : (k left : ℕ) → pitch_after period frequency (k * (far + 1) + left) q ≡ shifted k (pitch_after period frequency left q)
    next-samples zero left = rw (zero-mul, zero-add, zero-add)
    next-samples (suc k) left =
        next-sample 0 (suc k * (far + 1) + left) e (rw zero-add) (omega arith)
        ∙ ap₂ (λ (m l : ℕ). shifted m (pitch_after period frequency l q)) (omega arith) (omega arith)
        ∙ ap (shifted 1) (next-samples k left)
        ∙ ap (λ (m : ℕ). record { pitch = (pitch_after period frequency left q).pitch; samples = m }) (omega arith)

    pub all-samples : (n : ℕ) {o : Pitch} → o ≡ pitch_leap period (n % (far + 1)) q → record { pitch = o; samples = n / (far + 1) } ≡ pitch_after period frequency n q
    all-samples n c =
        let z : 0 < far + 1 = omega arith in
        last-sample (n / (far + 1)) (n % (far + 1)) e
        (ap (λ (l : ℕ). pitch_after period frequency l q) (sym (div-add-mod' n (far + 1))) ∙ next-samples (n / (far + 1)) (n % (far + 1))) (mod-lt n z) c

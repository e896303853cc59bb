-- Several samples: a wave's position goes round, and no kind becomes another.
use Prim.Native.Nat.{ℕ, zero, suc, ◌+◌, ◌%◌, ◌<◌}
use mathlib.Core.Path.{◌≡◌, refl, sym, ap}
use mathlib.Core.Bool.{Bool, true, false, cond}
use native.Mathlib.Numerals.{add-one}
use native.Mathlib.Nat.{add-zero}
use native.Mathlib.Omega.{arith}
use Rattle.sweep.specs.declared.sweep_modulate.SweepModulate.{SweepModulate}
use Rattle.voice.specs.ChannelEnum.{next_sample, clocked, period_of, frequency_of}
use Rattle.voice.specs.declared.channel_enum.Kind.{Kind}
use Rattle.voice.specs.declared.channel_enum.Kind.TheVariants.{Wave, Swept, Noise}
use Rattle.leaps.specs.Sample.{samples_on}

-- one more
pub one_more : (n : ℕ) (k : Kind) {j i : Kind} → j ≡ samples_on n k → i ≡ next_sample j → i ≡ samples_on (n + 1) k
unfolding samples_on
one_more n k p q = rw (add-one n, ← p) q

-- where one is due
pub due-more : (n : ℕ) (k : Kind) (due : Bool) → cond due (next_sample (samples_on n k)) (samples_on n k) ≡ samples_on (n + cond due 1 0) k
unfolding samples_on
due-more n k true = rw add-one
due-more n k false = rw add-zero

-- where a position is some samples on
unfoldable pub position_on : ℕ → ℕ → ℕ
position_on zero position = position
position_on (suc n) position = (position_on n position + 1) % 32

goes-round : (n position : ℕ) → 0 < n → position_on n position ≡ (position + n) % 32
unfolding position_on
goes-round zero position h = absurd (omega arith)
goes-round (suc zero) position h = refl
goes-round (suc (suc n)) position h = omega (arith, goes-round (suc n) position (omega arith))

pub wave-on : (n bank position : ℕ) → samples_on n (Wave bank position) ≡ Wave bank (position_on n position)
unfolding samples_on position_on next_sample
wave-on zero bank position = refl
wave-on (suc n) bank position = ap next_sample (wave-on n bank position)

pub swept-on : (n bank position : ℕ) (s : SweepModulate) → samples_on n (Swept bank position s) ≡ Swept bank (position_on n position) s
unfolding samples_on position_on next_sample
swept-on zero bank position s = refl
swept-on (suc n) bank position s = ap next_sample (swept-on n bank position s)

pub record IsNoise (k : Kind) : Type 0 where
  pub shift : ℕ
  pub tap : ℕ
  pub output : Bool
  pub is : k ≡ Noise shift tap output

pub noise-on : (n shift tap : ℕ) (output : Bool) → IsNoise (samples_on n (Noise shift tap output))
unfolding samples_on next_sample clocked
noise-on zero shift tap output = record { shift = shift; tap = tap; output = output; is = refl }
noise-on (suc n) shift tap output = record { shift = _; tap = _; output = _; is = ap next_sample (noise-on n shift tap output).is }

module _ (n : ℕ) (h : 0 < n) (bank position : ℕ) {at : ℕ} (e : at ≡ (position + n) % 32) where
  pub wave-moves : Wave bank at ≡ samples_on n (Wave bank position)
  wave-moves = rw (e, ← goes-round n position h) (sym (wave-on n bank position))

  pub swept-moves : (s : SweepModulate) → Swept bank at s ≡ samples_on n (Swept bank position s)
  swept-moves s = rw (e, ← goes-round n position h) (sym (swept-on n bank position s))

-- period and frequency stay
pub period-stays : (n : ℕ) (k : Kind) → period_of (samples_on n k) ≡ period_of k
unfolding period_of
period-stays n (Wave bank position) = rw (wave-on n bank position)
period-stays n (Swept bank position s) = rw (swept-on n bank position s)
period-stays n (Noise shift tap output) = rw (noise-on n shift tap output).is

pub frequency-stays : (n written : ℕ) (k : Kind) → frequency_of written (samples_on n k) ≡ frequency_of written k
unfolding frequency_of
frequency-stays n written (Wave bank position) = rw (wave-on n bank position)
frequency-stays n written (Swept bank position s) = rw (swept-on n bank position s)
frequency-stays n written (Noise shift tap output) = rw (noise-on n shift tap output).is

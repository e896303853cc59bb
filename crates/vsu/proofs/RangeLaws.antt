-- A state in range stays in range, and its voices' sums are small: what the runs need of the range rules, and the layers above.
use Rattle.std.specs.Prelude.{◌≡◌, ℕ, zero, suc, ◌+◌, ◌*◌, ◌/◌, ◌%◌, ◌<◌, ◌≤◌, Bool, true, ◌&&◌, eqb, ltb, leb, List, [], ◌∷◌, map, length, get_or, set, ℤ, pos}
use mathlib.Core.Path.{refl, sym, ap, subst, ◌∙◌}
use mathlib.Core.List.{map-id}
use native.Mathlib.Decide.{ℕ_discrete}
use native.Mathlib.Nat.{le_trans}
use native.Mathlib.Omega.{arith}
use borrow.Author.Tests.{le-leb, leb-true, leb-false, ltb-true, ltb-false, eq-eqb, eqb-true}
use lib.Signed.{mag}
use lib.ListN.{length-map, length-set}
use lib.Seq.{get_or-set_same, get_or-set_other}
use Rattle.laws.proofs.Cases.{both, each, ways}
use Rattle.voice.proofs.ChannelEnumLaws.{wave-kept, swept_kept, noise-kept, swept-on-keeps, heard-le}
use Rattle.common.specs.Bits.{bit, signed}
use Rattle.common.specs.Channel.{channel_in_range, live_in_range, pitch_in_range, envelope_in_range}
use Rattle.sweep.specs.SweepModulate.{sweep_in_range}
use Rattle.voice.specs.ChannelEnum.{stop_voice, step_auto_stop, step_frequency, step_envelope, voice_write, wave_in_range, swept_in_range, noise_in_range, wave_kind_in_range, swept_kind_in_range, noise_kind_in_range}
use Rattle.voice.specs.declared.channel_enum.Voice.{Voice}
use Rattle.six.proofs.CoreLaws.{silenced-left, silenced-right}
use Rattle.six.specs.Core.{any_plays, heard_left, heard_right, plays, silenced, sums_of, sweep_fifth, total, voice_at, voices_after, voices_after_all, voices_in_range}
use Rattle.vsu.specs.Core.{SmallSums, all_at_most, all_bytes, frame_side, cycle, decode_of, makes_frame, frame_of, in_range, power_on, run, shaped, write, write_to}
use Rattle.vsu.specs.declared.unit.Register.{Register}
use Rattle.vsu.specs.declared.unit.Register.TheVariants as registers
use Rattle.vsu.specs.declared.unit.Vsu.{Vsu}

-- six voices, each in its own range

pub record Six (vs : List Voice) : Type 0 where
  pub six : length vs ≡ 6
  pub first : wave_in_range (voice_at 0 vs) ≡ true
  pub second : wave_in_range (voice_at 1 vs) ≡ true
  pub third : wave_in_range (voice_at 2 vs) ≡ true
  pub fourth : wave_in_range (voice_at 3 vs) ≡ true
  pub fifth : swept_in_range (voice_at 4 vs) ≡ true
  pub sixth : noise_in_range (voice_at 5 vs) ≡ true

pub record InRange (u : Vsu) : Type 0 where
  pub voices : Six u.voices
  pub waves : length u.waves ≡ 160
  pub small : all_at_most 63 u.waves ≡ true
  pub entries : length u.modulation ≡ 32
  pub bytes : all_bytes u.modulation ≡ true
  pub output : u.output ≤ 479
  pub mutes : u.mutes ≤ 63

pub six-facts : (vs : List Voice) → length vs ≡ 6 → voices_in_range vs ≡ true → Six vs
unfolding voices_in_range
six-facts vs n h =
    each (wave_in_range (voice_at 0 vs))
    (wave_in_range (voice_at 1 vs) ∷ wave_in_range (voice_at 2 vs) ∷ wave_in_range (voice_at 3 vs) ∷ swept_in_range (voice_at 4 vs) ∷ noise_in_range (voice_at 5 vs) ∷ [])
    h
    (λ k.
    record {
      six = n;
      first = k.0;
      second = k.1.0;
      third = k.1.1.0;
      fourth = k.1.1.1.0;
      fifth = k.1.1.1.1.0;
      sixth = k.1.1.1.1.1.0;
    })

six-test : (vs : List Voice) → Six vs → voices_in_range vs ≡ true
unfolding voices_in_range
six-test vs k = both (both (both (both (both k.first k.second) k.third) k.fourth) k.fifth) k.sixth

module _ (u : Vsu) where
  shape-facts : shaped u ≡ true → (length u.voices ≡ 6) × (length u.waves ≡ 160) × (length u.modulation ≡ 32) × (all_bytes u.modulation ≡ true)
  unfolding shaped
  shape-facts h =
      each (eqb (length u.voices) 6) (eqb (length u.waves) 160 ∷ eqb (length u.modulation) 32 ∷ all_bytes u.modulation ∷ []) h
      (λ k. (eqb-true _ _ k.0, eqb-true _ _ k.1.0, eqb-true _ _ k.1.1.0, k.1.1.1.0))

  pub range-facts : in_range u ≡ true → InRange u
  unfolding in_range
  range-facts h =
      each (shaped u) ((voices_in_range u.voices && leb u.output 479 && all_at_most 63 u.waves && leb u.mutes 63) ∷ []) h
      (λ k.
      let s = shape-facts k.0 in
      each (voices_in_range u.voices) (leb u.output 479 ∷ all_at_most 63 u.waves ∷ leb u.mutes 63 ∷ []) k.1.0
      (λ l.
      record {
        voices = six-facts u.voices s.0 l.0;
        waves = s.1;
        small = l.1.1.0;
        entries = s.2;
        bytes = s.3;
        output = leb-true _ _ l.1.0;
        mutes = leb-true _ _ l.1.1.1.0;
      }))

  pub range-test : InRange u → in_range u ≡ true
  unfolding in_range shaped
  range-test k =
      both
      (both (both (both (eq-eqb _ _ k.voices.six) (eq-eqb _ _ k.waves)) (eq-eqb _ _ k.entries)) k.bytes)
      (both (both (both (six-test u.voices k.voices) (le-leb _ _ k.output)) k.small) (le-leb _ _ k.mutes))

-- every voice through a function that keeps each range

mapped : (f : Voice → Voice) (vs : List Voice) (i : ℕ) (d : Voice) → i < length vs → f (get_or vs i d) ≡ get_or (map f vs) i d
mapped f [] i d h = absurd (omega arith)
mapped f (v ∷ vs) zero d h = refl
mapped f (v ∷ vs) (suc i) d h = mapped f vs i d (omega arith)

Keeps : (Voice → Voice) → (Voice → Bool) → Type 0
Keeps f R = (v : Voice) → R v ≡ true → R (f v) ≡ true

module _ (f : Voice → Voice) (w : Keeps f wave_in_range) (s : Keeps f swept_in_range) (n : Keeps f noise_in_range) {vs : List Voice} (k : Six vs) where
  at : (R : Voice → Bool) (i : ℕ) → i < 6 → Keeps f R → R (voice_at i vs) ≡ true → R (voice_at i (map f vs)) ≡ true
  unfolding Keeps
  at R i h r p = subst (λ (v : Voice). R v ≡ true) (mapped f vs i _ (omega (arith, k.six))) (r (voice_at i vs) p)

  map-keeps : Six (map f vs)
  map-keeps =
      record {
        six = length-map vs f ∙ k.six;
        first = at wave_in_range 0 (omega arith) w k.first;
        second = at wave_in_range 1 (omega arith) w k.second;
        third = at wave_in_range 2 (omega arith) w k.third;
        fourth = at wave_in_range 3 (omega arith) w k.fourth;
        fifth = at swept_in_range 4 (omega arith) s k.fifth;
        sixth = at noise_in_range 5 (omega arith) n k.sixth;
      }

-- one voice changed

module _ (vs : List Voice) (k : Six vs) (j : ℕ) (v : Voice) where
  put : (R : Voice → Bool) (i : ℕ) → i < 6 → R (voice_at i vs) ≡ true → (i ≡ j → R v ≡ true) → R (voice_at i (set vs j v)) ≡ true
  put R i h p q = go (ℕ_discrete i j)
    where
      go : Dec (i ≡ j) → R (voice_at i (set vs j v)) ≡ true
      go (yes e) = rw (← e, get_or-set_same vs i v _ (omega (arith, k.six))) (q e)
      go (no d) = rw (get_or-set_other vs j i v _ d) p

  set_keeps :
      (j ≡ 4 → swept_in_range v ≡ true) → (j ≡ 5 → noise_in_range v ≡ true) → (j < 4 → wave_in_range v ≡ true) → Six (set vs j v)
  set_keeps s n w =
      record {
        six = length-set vs j v ∙ k.six;
        first = put wave_in_range 0 (omega arith) k.first (λ e. w (omega arith));
        second = put wave_in_range 1 (omega arith) k.second (λ e. w (omega arith));
        third = put wave_in_range 2 (omega arith) k.third (λ e. w (omega arith));
        fourth = put wave_in_range 3 (omega arith) k.fourth (λ e. w (omega arith));
        fifth = put swept_in_range 4 (omega arith) k.fifth (λ e. s (sym e));
        sixth = put noise_in_range 5 (omega arith) k.sixth (λ e. n (sym e));
      }

-- what holds of every voice in its range holds of the six

module _ (P : Voice → Type 0) {vs : List Voice} (k : Six vs) (w : (v : Voice) → wave_in_range v ≡ true → P v) where
  wave-at : (i : ℕ) → i < 4 → P (voice_at i vs)
  wave-at zero h = w _ k.first
  wave-at (suc zero) h = w _ k.second
  wave-at (suc (suc zero)) h = w _ k.third
  wave-at (suc (suc (suc zero))) h = w _ k.fourth
  wave-at (suc (suc (suc (suc i)))) h = absurd (omega arith)

  pub voice-at : ((v : Voice) → swept_in_range v ≡ true → P v) → ((v : Voice) → noise_in_range v ≡ true → P v) → (i : ℕ) → i < 6 → P (voice_at i vs)
  voice-at s n zero h = w _ k.first
  voice-at s n (suc zero) h = w _ k.second
  voice-at s n (suc (suc zero)) h = w _ k.third
  voice-at s n (suc (suc (suc zero))) h = w _ k.fourth
  voice-at s n (suc (suc (suc (suc zero)))) h = s _ k.fifth
  voice-at s n (suc (suc (suc (suc (suc zero))))) h = n _ k.sixth
  voice-at s n (suc (suc (suc (suc (suc (suc i)))))) h = absurd (omega arith)

-- a state in range stays in range under every cycle

pub walk-keeps : {vs : List Voice} → Six vs → Six (map step_envelope (map step_frequency (map step_auto_stop vs)))
unfolding Keeps
walk-keeps {vs} k =
    let a : Six (map step_auto_stop vs) = map-keeps step_auto_stop wave-kept.auto-stop swept_kept.auto-stop noise-kept.auto-stop k in
    let b : Six (map step_frequency (map step_auto_stop vs)) =
    map-keeps step_frequency wave-kept.frequency-step swept_kept.frequency-step noise-kept.frequency-step a in
    map-keeps step_envelope wave-kept.envelope-on swept_kept.envelope-on noise-kept.envelope-on b

step_keeps : (m : List ℤ) {vs : List Voice} → Six vs → Six (voices_after m vs)
unfolding voices_after sweep_fifth
step_keeps m {vs} k =
    let c : Six (map step_envelope (map step_frequency (map step_auto_stop vs))) = walk-keeps k in
    set_keeps _ c 4 _ (λ e. swept-on-keeps m _ c.fifth) (λ e. absurd (omega arith)) (λ h. absurd (omega arith))

pub steps-keep : (m : List ℤ) (n : ℕ) {vs : List Voice} → Six vs → Six (voices_after_all m n vs)
unfolding voices_after_all
steps-keep m zero k = k
steps-keep m (suc n) k = step_keeps m (steps-keep m n k)

cycle-facts : (u : Vsu) → InRange u → InRange (cycle u)
unfolding cycle
cycle-facts u k =
    record {
      voices = step_keeps u.modulation k.voices;
      waves = k.waves;
      small = k.small;
      entries = k.entries;
      bytes = k.bytes;
      output = ways (λ (o : ℕ). o ≤ 479) (makes_frame u) (λ d. omega arith) (λ d. omega (arith, leb-false 480 (u.output + 1) d));
      mutes = k.mutes;
    }

pub cycle-keeps : (u : Vsu) → in_range u ≡ true → in_range (cycle u) ≡ true
cycle-keeps u h = range-test (cycle u) (cycle-facts u (range-facts u h))

pub run-keeps : (n : ℕ) (u : Vsu) → in_range u ≡ true → in_range (run n u) ≡ true
unfolding run
run-keeps zero u h = h
run-keeps (suc n) u h = cycle-keeps (run n u) (run-keeps n u h)

pub run-voices : (n : ℕ) (u : Vsu) → in_range u ≡ true → voices_in_range (run n u).voices ≡ true
run-voices n u h = six-test (run n u).voices (range-facts (run n u) (run-keeps n u h)).voices

-- and under every write

sized_set : {A : Type 0} (f : A → ℕ) (most : ℕ) (l : List A) (i : ℕ) (x : A) → f x ≤ most → all_at_most most (map f l) ≡ true → all_at_most most (map f (set l i x)) ≡ true
unfolding all_at_most
sized_set f most [] i x h p = p
sized_set f most (y ∷ l) zero x h p = each (leb (f y) most) (all_at_most most (map f l) ∷ []) p (λ k. both (le-leb (f x) most h) k.1.0)
sized_set f most (y ∷ l) (suc i) x h p = each (leb (f y) most) (all_at_most most (map f l) ∷ []) p (λ k. both k.0 (sized_set f most l i x h k.1.0))

small-set : (l : List ℕ) (i x : ℕ) → x ≤ 63 → all_at_most 63 l ≡ true → all_at_most 63 (set l i x) ≡ true
small-set l i x h p = rw map-id at (sized_set (λ (n : ℕ). n) 63 l i x h (rw map-id p))

signed-byte : (b : ℕ) → b < 256 → mag (signed b) ≤ 127
unfolding signed
signed-byte b h = ways (λ (z : ℤ). mag z ≤ 127) (ltb b 128) (λ t. omega (arith, ltb-true b 128 t)) (λ t. omega (arith, ltb-false b 128 t))

module _ (u : Vsu) (k : InRange u) (b : ℕ) (h : b < 256) where
  voice-keeps : (j o : ℕ) → Six (set u.voices j (voice_write o b (voice_at j u.voices)))
  voice-keeps j o =
      let six = k.voices in
      set_keeps u.voices six j _
      (λ e. swept_kept.write _ (subst (λ (i : ℕ). swept_in_range (voice_at i u.voices) ≡ true) (sym e) six.fifth) o b h)
      (λ e. noise-kept.write _ (subst (λ (i : ℕ). noise_in_range (voice_at i u.voices) ≡ true) (sym e) six.sixth) o b h)
      (wave-at (λ (v : Voice). wave_in_range (voice_write o b v) ≡ true) six (λ v r. wave-kept.write v r o b h) j)

  stop-keeps : Six (map stop_voice u.voices)
  unfolding Keeps
  stop-keeps = map-keeps stop_voice wave-kept.stop swept_kept.stop noise-kept.stop k.voices

  write-facts : (r : Register) → InRange (write_to r b u)
  unfolding write_to
  write-facts (registers.Wave at) =
      ways InRange (any_plays u.voices) (λ _. k)
      (λ _.
      record {
        voices = k.voices;
        waves = length-set u.waves at (b % 64) ∙ k.waves;
        small = small-set u.waves at (b % 64) (omega arith) k.small;
        entries = k.entries;
        bytes = k.bytes;
        output = k.output;
        mutes = k.mutes;
      })
  write-facts (registers.Modulation at) =
      ways InRange (plays (voice_at 4 u.voices)) (λ _. k)
      (λ _.
      record {
        voices = k.voices;
        waves = k.waves;
        small = k.small;
        entries = length-set u.modulation at (signed b) ∙ k.entries;
        bytes = sized_set mag 127 u.modulation at (signed b) (signed-byte b h) k.bytes;
        output = k.output;
        mutes = k.mutes;
      })
  write-facts (registers.Channel j o) =
      record {
        voices = voice-keeps j o;
        waves = k.waves;
        small = k.small;
        entries = k.entries;
        bytes = k.bytes;
        output = k.output;
        mutes = k.mutes;
      }
  write-facts registers.Stop =
      ways InRange (bit 0 b)
      (λ _.
      record {
        voices = stop-keeps;
        waves = k.waves;
        small = k.small;
        entries = k.entries;
        bytes = k.bytes;
        output = k.output;
        mutes = k.mutes;
      })
      (λ _. k)
  write-facts registers.Nothing = k

pub write_keeps : (u : Vsu) (a b : ℕ) → b < 256 → in_range u ≡ true → in_range (write a b u) ≡ true
write_keeps u a b h r = range-test (write a b u) (write-facts u (range-facts u r) b h (decode_of a))

pub power-on-in-range : in_range power_on ≡ true
unfolding in_range shaped voices_in_range power_on all_at_most wave_in_range swept_in_range noise_in_range wave_kind_in_range swept_kind_in_range noise_kind_in_range channel_in_range live_in_range pitch_in_range envelope_in_range sweep_in_range
power-on-in-range = refl

-- the sums of a state in range

pub small_at : (most : ℕ) (l : List ℕ) → all_at_most most l ≡ true → (i : ℕ) → get_or l i 0 ≤ most
unfolding all_at_most
small_at most [] h i = omega arith
small_at most (x ∷ l) h zero = each (leb x most) (all_at_most most l ∷ []) h (λ k. leb-true x most k.0)
small_at most (x ∷ l) h (suc i) = each (leb x most) (all_at_most most l ∷ []) h (λ k. small_at most l k.1.0 i)

total-le : (f : Voice → ℕ) (m : ℕ) (vs : List Voice) → ((i : ℕ) → i < length vs → f (voice_at i vs) ≤ m) → total (map f vs) ≤ length vs * m
total-le f m [] h = omega arith
total-le f m (v ∷ vs) h = omega (arith, h 0 (omega arith), total-le f m vs (λ i g. h (suc i) (omega arith)))

module _ (u : Vsu) (k : InRange u) where
  sum-le : (f : Voice → ℕ) → ((i : ℕ) → i < 6 → f (voice_at i u.voices) ≤ 913) → total (map f u.voices) ≤ 5478
  sum-le f h = rw k.voices.six at (total-le f 913 u.voices (λ i g. h i (rw k.voices.six at g)))

  pub quiet : SmallSums (sums_of u.waves u.voices)
  unfolding sums_of
  quiet =
      let s : (i : ℕ) → get_or u.waves i 0 ≤ 63 = small_at 63 u.waves k.small in
      record {
        left =
            sum-le (heard_left u.waves)
            (voice-at (λ (v : Voice). heard_left u.waves v ≤ 913) k.voices
            (λ v r. heard-le u.waves s _ (wave-kept.left v r) v (wave-kept.level v r))
            (λ v r. heard-le u.waves s _ (swept_kept.left v r) v (swept_kept.level v r))
            (λ v r. heard-le u.waves s _ (noise-kept.left v r) v (noise-kept.level v r)));
        right =
            sum-le (heard_right u.waves)
            (voice-at (λ (v : Voice). heard_right u.waves v ≤ 913) k.voices
            (λ v r. heard-le u.waves s _ (wave-kept.right v r) v (wave-kept.level v r))
            (λ v r. heard-le u.waves s _ (swept_kept.right v r) v (swept_kept.level v r))
            (λ v r. heard-le u.waves s _ (noise-kept.right v r) v (noise-kept.level v r)));
      }

  -- and with some of the voices muted
  pub quiet-muted : (mutes : ℕ) → SmallSums (sums_of u.waves (silenced mutes u.voices))
  quiet-muted mutes =
      record {
        left = le_trans (silenced-left u.waves mutes u.voices) quiet.left;
        right = le_trans (silenced-right u.waves mutes u.voices) quiet.right;
      }

-- a frame's sides are multiples of 32 from 0 to 21,888

pub record Side (z : ℤ) : Type 0 where
  pub number : ℕ
  pub is : z ≡ pos (number * 32)
  pub most : number * 32 ≤ 21888

side-of : (sum : ℕ) → sum ≤ 5478 → Side (frame_side sum)
side-of sum h = record { number = sum / 8; is = ap pos (omega arith); most = omega arith }

pub frame-sides : (u : Vsu) → in_range u ≡ true → (mutes : ℕ) → Side (frame_of u.waves (silenced mutes u.voices)).left × Side (frame_of u.waves (silenced mutes u.voices)).right
unfolding frame_of
frame-sides u h mutes =
    let q : SmallSums (sums_of u.waves (silenced mutes u.voices)) = quiet-muted u (range-facts u h) mutes in
    (side-of _ q.left, side-of _ q.right)

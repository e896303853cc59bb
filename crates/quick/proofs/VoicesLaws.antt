-- n cycles of the six voices at once: as many as the nearest of them takes.
use Rattle.std.specs.Prelude.{◌≡◌, ℕ, zero, suc, ◌+◌, ◌<◌, ◌≤◌, true, List, [], ◌∷◌, map, length, get_or, drop, ℤ}
use mathlib.Core.Path.{refl, sym, ap, ◌∙◌}
use mathlib.Core.Bool.{false≢true}
use mathlib.Core.List.{map-id, map-map}
use native.Mathlib.Numerals.{add-one}
use native.Mathlib.Omega.{arith}
use lib.ListN.{drop_of_length-le}
use lib.Seq.{drop-cons}
use Rattle.laws.proofs.Cases.{each}
use Rattle.common.proofs.ChannelLaws.{channel-facts}
use Rattle.common.specs.Channel.{channel_in_range}
use Rattle.voice.specs.ChannelEnum.{step_auto_stop, step_envelope, step_frequency, step_sweep, step_sweep_of, wave_in_range, wave_kind_in_range, swept_in_range, swept_kind_in_range, noise_in_range, noise_kind_in_range}
use Rattle.voice.specs.declared.channel_enum.Kind.{Kind}
use Rattle.voice.specs.declared.channel_enum.Kind.TheVariants.{Wave, Swept, Noise}
use Rattle.voice.specs.declared.channel_enum.Voice.{Voice}
use Rattle.six.proofs.CoreLaws.{cycles-add, one_map, step_voice}
use Rattle.six.specs.Core.{sweep_fifth, voice_at, voices_after, voices_after_all, voices_in_range}
use Rattle.vsu.proofs.RangeLaws.{Six, six-facts, steps-keep, voice-at, walk-keeps}
use Rattle.leaps.proofs.ChannelEnumLaws.{leap-taken, noise-leapable, swept-leapable, swept-near, voice-more, voice-none, voice_after, wave-leapable}
use Rattle.leaps.proofs.DistanceLaws.{within}
use Rattle.leaps.specs.ChannelEnum.{leap_of, leapable, voice_far, voice_leap}
use Rattle.leaps.specs.Distance.{least, never}
use Rattle.quick.specs.Voices.{far_from, voices_far}

-- the nearest, from the front

module _ (vs : List Voice) (i : ℕ) where
  pub far-later : (d : Voice) (x : ℕ) {y : ℕ} → i < length vs → voices_far vs ≡ far_from x (drop i vs) → y ≡ least x (voice_far (get_or vs i d)) → voices_far vs ≡ far_from y (drop (i + 1) vs)
  unfolding far_from
  far-later d x h e q = e ∙ rw (drop-cons vs i d h, q, add-one i)

  pub far-all : {x : ℕ} → length vs ≤ i → voices_far vs ≡ far_from x (drop i vs) → x ≡ voices_far vs
  unfolding far_from
  far-all h e = sym (e ∙ rw (drop_of_length-le vs h))

-- what is within it is within each

module _ (n : ℕ) where
  abbrev Within : List Voice → Type 0
  Within vs = (i : ℕ) → i < length vs → n ≤ voice_far (voice_at i vs)

  ahead : (v : Voice) (vs : List Voice) → n ≤ voice_far v → Within vs → Within (v ∷ vs)
  ahead v vs h k zero g = h
  ahead v vs h k (suc i) g = k i (omega arith)

  within_all : (d : ℕ) (vs : List Voice) → n ≤ far_from d vs → (n ≤ d) × Within vs
  unfolding far_from
  within_all d [] h = (h, λ i g. absurd (omega arith))
  within_all d (v ∷ vs) h =
      let k = within_all (least d (voice_far v)) vs h in
      let l = within d (voice_far v) k.0 in
      (l.0, ahead v vs l.1 k.1)

-- two maps that agree on every voice

map_at : (f g : Voice → Voice) (vs : List Voice) → ((i : ℕ) → i < length vs → f (voice_at i vs) ≡ g (voice_at i vs)) → map f vs ≡ map g vs
map_at f g [] h = refl
map_at f g (v ∷ vs) h = λ j. h 0 (omega arith) j ∷ map_at f g vs (λ i l. h (suc i) (omega arith)) j

-- step 4 is channel 5's alone: no other voice in its range has a sweep

module _ (m : List ℤ) where
  wave-still : (c : Kind) (v : Voice) → v.kind ≡ c → wave_kind_in_range c ≡ true → v ≡ step_sweep m v
  unfolding step_sweep_of wave_kind_in_range
  wave-still (Wave bank position) v e h = rw e
  wave-still (Swept bank position s) v e h = absurd (false≢true h)
  wave-still (Noise shift tap output) v e h = absurd (false≢true h)

  noise-still : (c : Kind) (v : Voice) → v.kind ≡ c → noise_kind_in_range c ≡ true → v ≡ step_sweep m v
  unfolding step_sweep_of noise_kind_in_range
  noise-still (Wave bank position) v e h = absurd (false≢true h)
  noise-still (Swept bank position s) v e h = absurd (false≢true h)
  noise-still (Noise shift tap output) v e h = rw e

  wave-same : (v : Voice) → wave_in_range v ≡ true → v ≡ step_sweep m v
  unfolding wave_in_range
  wave-same v h = each (channel_in_range 3 v.channel) (wave_kind_in_range v.kind ∷ []) h (λ k. wave-still v.kind v refl k.1.0)

  noise-same : (v : Voice) → noise_in_range v ≡ true → v ≡ step_sweep m v
  unfolding noise_in_range
  noise-same v h = each (channel_in_range 39 v.channel) (noise_kind_in_range v.kind ∷ []) h (λ k. noise-still v.kind v refl k.1.0)

  swept_all : (vs : List Voice) → Six vs → sweep_fifth m vs ≡ map (step_sweep m) vs
  unfolding sweep_fifth
  swept_all (a ∷ b ∷ c ∷ d ∷ e ∷ f ∷ []) k =
      λ j.
      wave-same a k.first j ∷ wave-same b k.second j ∷ wave-same c k.third j ∷ wave-same d k.fourth j ∷ step_sweep m e
      ∷ noise-same f k.sixth j ∷ []
  swept_all [] k = absurd (omega (arith, k.six))
  swept_all (a ∷ []) k = absurd (omega (arith, k.six))
  swept_all (a ∷ b ∷ []) k = absurd (omega (arith, k.six))
  swept_all (a ∷ b ∷ c ∷ []) k = absurd (omega (arith, k.six))
  swept_all (a ∷ b ∷ c ∷ d ∷ []) k = absurd (omega (arith, k.six))
  swept_all (a ∷ b ∷ c ∷ d ∷ e ∷ []) k = absurd (omega (arith, k.six))
  swept_all (a ∷ b ∷ c ∷ d ∷ e ∷ f ∷ g ∷ vs) k = absurd (omega (arith, k.six))

  -- so a cycle of the six is one of each
  each_after : {vs : List Voice} → Six vs → voices_after m vs ≡ map (voice_after m) vs
  unfolding voices_after
  each_after {vs} k =
      swept_all _ (walk-keeps k) ∙ ap (map (step_sweep m)) (one_map step_envelope step_frequency step_auto_stop vs) ∙ map-map (step_sweep m) step_voice vs

  -- and n cycles at once are a leap of each
  module _ {vs : List Voice} (k : Six vs) where
    Low : Voice → Type 0
    Low v = v.channel.envelope.tick ≤ 307218

    low : (i : ℕ) → i < 6 → Low (voice_at i vs)
    unfolding Low wave_in_range swept_in_range noise_in_range
    low =
        voice-at Low k
        (λ v r. each (channel_in_range 3 v.channel) (wave_kind_in_range v.kind ∷ []) r (λ t. (channel-facts 3 v.channel t.0).envelope.tick))
        (λ v r. each (channel_in_range 3 v.channel) (swept_kind_in_range v.kind ∷ []) r (λ t. (channel-facts 3 v.channel t.0).envelope.tick))
        (λ v r. each (channel_in_range 39 v.channel) (noise_kind_in_range v.kind ∷ []) r (λ t. (channel-facts 39 v.channel t.0).envelope.tick))

    all-leap : (n : ℕ) → n ≤ voices_far vs → voices_after_all m n vs ≡ map (voice_leap n) vs
    unfolding voices_after_all Low
    all-leap zero h = sym (map_at (voice_leap 0) (λ v. v) vs (λ i g. voice-none (voice_at i vs) (low i (omega (arith, k.six)))) ∙ map-id vs)
    all-leap (suc n) h =
        each_after (steps-keep m n k) ∙ ap (map (voice_after m)) (all-leap n (omega arith)) ∙ map-map (voice_after m) (voice_leap n) vs
        ∙ map_at (λ v. voice_after m (voice_leap n v)) (voice_leap (suc n)) vs
        (λ i g. voice-more (voice_at i vs) (low i (omega (arith, k.six))) m n ((within_all (suc n) never vs h).1 i g))

    -- each of them can
    module _ {n : ℕ} (h : n ≤ voices_far vs) where
      near : n ≤ 153608
      near = swept-near (voice_at 4 vs) k.fifth ((within_all n never vs h).1 4 (omega (arith, k.six)))

      Can : Voice → Type 0
      Can v = n ≤ voice_far v → leapable n v ≡ true

      can : (i : ℕ) → i < 6 → Can (voice_at i vs)
      unfolding Can
      can = voice-at Can k (λ v r f. wave-leapable v f near r) (λ v r f. swept-leapable v f near r) (λ v r f. noise-leapable v f near r)

      pub leap-is : map (leap_of n) vs ≡ voices_after_all m n vs
      unfolding Can
      leap-is =
          map_at (leap_of n) (voice_leap n) vs
          (λ i g. sym (leap-taken n (voice_at i vs) (can i (omega (arith, k.six)) ((within_all n never vs h).1 i g)) refl))
          ∙ sym (all-leap n h)

-- a turn of `cycles`, i cycles in, that goes no further at once than all can

module _ (m : List ℤ) (i : ℕ) (vs : List Voice) (h : length vs ≡ 6) (r : voices_in_range vs ≡ true) {out : List Voice} (e : out ≡ voices_after_all m i vs) {far part : ℕ} (f : far ≡ voices_far out) (p : part ≤ far) where
  pub after-leap : {there : List Voice} → there ≡ map (leap_of part) out → there ≡ voices_after_all m (i + part) vs
  after-leap q =
      let k : Six out = rw e (steps-keep m i (six-facts vs h r)) in
      let n : part ≤ voices_far out = rw f at p in
      q ∙ leap-is m k n ∙ ap (voices_after_all m part) e ∙ sym (cycles-add m i part vs)

  pub after_one : {there next : List Voice} → there ≡ map (leap_of part) out → next ≡ voices_after_all m 1 there → next ≡ voices_after_all m (i + part + 1) vs
  after_one q o = o ∙ ap (voices_after_all m 1) (after-leap q) ∙ sym (cycles-add m (i + part) 1 vs)

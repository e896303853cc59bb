-- n cycles of a voice at once: as many as live counter, envelope and sweep take in one leap.
use Prim.Native.Nat.{ℕ, suc, ◌<◌, ◌≤◌}
use mathlib.Core.Path.{◌≡◌, refl, sym, ap, ap₂, subst, ◌∙◌}
use mathlib.Core.Bool.{Bool, true, false, cond, ◌&&◌, false≢true}
use mathlib.Core.List.{List, [], ◌∷◌}
use native.Mathlib.Omega.{arith}
use borrow.Author.Tests.{le-leb, leb-true, lt-ltb, ltb-true}
use lib.Dec.{leb, ltb}
use lib.IntN.{ℤ}
use Rattle.laws.proofs.Cases.{both, each}
use Rattle.common.proofs.ChannelLaws.{ChannelOk, channel-facts}
use Rattle.common.specs.Channel.{channel_in_range, pitch_step, with_pitch, with_tick_counter}
use Rattle.common.specs.declared.channel.Channel.{Channel}
use Rattle.common.specs.declared.channel.Envelope.{Envelope}
use Rattle.common.specs.declared.channel.Live.{Live}
use Rattle.common.specs.declared.channel.Pitched.{Pitched}
use Rattle.sweep.proofs.SweepModulateLaws.{sweep-facts}
use Rattle.sweep.specs.SweepModulate.{sweep_in_range}
use Rattle.sweep.specs.declared.sweep_modulate.Stepped.{Stepped}
use Rattle.sweep.specs.declared.sweep_modulate.SweepModulate.{SweepModulate}
use Rattle.voice.specs.ChannelEnum.{voice_of, period_of, frequency_of, next_sample, sampled, step_auto_stop, step_envelope, step_frequency, step_sweep, step_sweep_of, wave_in_range, wave_kind_in_range, swept_in_range, swept_kind_in_range, noise_in_range, noise_kind_in_range}
use Rattle.voice.specs.declared.channel_enum.Kind.{Kind}
use Rattle.voice.specs.declared.channel_enum.Kind.TheVariants.{Wave, Swept, Noise}
use Rattle.voice.specs.declared.channel_enum.Voice.{Voice}
use Rattle.leaps.proofs.DistanceLaws.{within}
use Rattle.leaps.proofs.EnvelopeLaws.{envelope-more, envelope-none}
use Rattle.leaps.proofs.LiveLaws.{live_more, live-none}
use Rattle.leaps.proofs.PitchLaws.{after-frequency}
use Rattle.leaps.proofs.SampleLaws.{due-more, frequency-stays, noise-on, period-stays, position_on, swept-on, wave-on}
use Rattle.leaps.proofs.SweepModulateLaws.{far-le, sweep-more, sweep-none}
use Rattle.leaps.specs.ChannelEnum.{Leapable, Playable, channel_leap, kind_far, kind_leap, leap_of, leapable, pitchable, sampled_after, swept_leap, tone_leap, voice_far, voice_leap}
use Rattle.leaps.specs.Distance.{least}
use Rattle.leaps.specs.Envelope.{envelope_far, envelope_leap}
use Rattle.leaps.specs.Live.{live_far, live_leap}
use Rattle.leaps.specs.Pitch.{Pitchable, pitch_after, pitch_more}
use Rattle.leaps.specs.Sample.{samples_on}
use Rattle.leaps.specs.SweepModulate.{sweep_leap}
use Rattle.leaps.specs.declared.pitch.Sampled.{Sampled}

-- steps 1 to 4 of one voice
abbrev pub voice_after : List ℤ → Voice → Voice
voice_after entries v = step_sweep entries (step_envelope (step_frequency (step_auto_stop v)))

module _ (c : Channel) (n : ℕ) (a : suc n ≤ live_far c.live) (b : suc n ≤ envelope_far c.envelope) (h : c.envelope.tick ≤ 307218) where
  -- steps 1 to 3, one cycle on from the voice after n
  module _ (k : Kind) where
    abbrev here : Sampled
    here = sampled_after n c k

    abbrev kind : Kind
    kind = samples_on here.samples k

    abbrev stepped : Live → Envelope → Pitched → Voice
    stepped l e t =
        voice_of (record { live = l; pitch = t.pitch; envelope = e; left = c.left; right = c.right }) (cond t.due (next_sample kind) kind)

    same-pitch : pitch_step (period_of kind) (frequency_of here.pitch.frequency kind) here.pitch ≡ pitch_step (period_of k) (frequency_of c.pitch.frequency k) here.pitch
    same-pitch =
        λ i. pitch_step (period-stays here.samples k i)
        ((ap (λ (f : ℕ). frequency_of f kind) (after-frequency (period_of k) (frequency_of c.pitch.frequency k) n c.pitch)
        ∙ frequency-stays here.samples c.pitch.frequency k) i)
        here.pitch

    tone-more : step_envelope (step_frequency (step_auto_stop (tone_leap n (voice_of c k)))) ≡ tone_leap (suc n) (voice_of c k)
    unfolding step_envelope step_frequency step_auto_stop sampled tone_leap pitch_after pitch_more
    tone-more =
        (λ i. stepped (live_more c.live n a i) (envelope-more c.envelope h n b i) (same-pitch i))
        ∙ ap (λ (j : Kind). voice_of (record { live = live_leap (suc n) c.live; pitch = (pitch_step (period_of k) (frequency_of c.pitch.frequency k) here.pitch).pitch; envelope = envelope_leap (suc n) c.envelope; left = c.left; right = c.right }) j)
        (due-more here.samples k (pitch_step (period_of k) (frequency_of c.pitch.frequency k) here.pitch).due)

  -- and step 4
  module _ (entries : List ℤ) where
    swept : {d : Channel} (r bank position : ℕ) (s : SweepModulate) → suc n ≤ kind_far (Swept bank position s) → step_sweep_of entries d (samples_on r (Swept bank position (sweep_leap n s))) ≡ voice_of d (samples_on r (Swept bank position (sweep_leap (suc n) s)))
    unfolding step_sweep_of kind_far
    swept {d} r bank position s f =
        ap (step_sweep_of entries d) (swept-on r bank position (sweep_leap n s))
        ∙ ap (λ (t : Stepped). voice_of t.channel (Swept bank (position_on r position) t.sweep)) (sweep-more s entries d n f)
        ∙ ap (voice_of d) (sym (swept-on r bank position (sweep_leap (suc n) s)))

    unswept : {d : Channel} {j k : Kind} → k ≡ j → step_sweep_of entries d j ≡ voice_of d j → step_sweep_of entries d k ≡ voice_of d k
    unswept {d} e p = subst (λ (i : Kind). step_sweep_of entries d i ≡ voice_of d i) (sym e) p

    more : (k : Kind) → suc n ≤ kind_far k → voice_after entries (voice_leap n (voice_of c k)) ≡ voice_leap (suc n) (voice_of c k)
    unfolding swept_leap kind_leap tone_leap period_of frequency_of sweep_leap step_sweep_of
    more (Wave bank position) f =
        ap (step_sweep entries) (tone-more (Wave bank position)) ∙ unswept (wave-on (sampled_after (suc n) c (Wave bank position)).samples bank position) refl
    more (Swept bank position s) f =
        ap (step_sweep entries) (tone-more (Swept bank position (sweep_leap n s)))
        ∙ swept (sampled_after (suc n) c (Swept bank position s)).samples bank position s f
    more (Noise shift tap output) f =
        ap (step_sweep entries) (tone-more (Noise shift tap output))
        ∙ unswept (noise-on (sampled_after (suc n) c (Noise shift tap output)).samples shift tap output).is refl

-- no cycles
none : (c : Channel) (k : Kind) → c.envelope.tick ≤ 307218 → voice_leap 0 (voice_of c k) ≡ voice_of c k
unfolding swept_leap tone_leap kind_leap pitch_after samples_on
none c k h = λ i. voice_of (record { live = live-none c.live i; pitch = c.pitch; envelope = envelope-none c.envelope h i; left = c.left; right = c.right }) (same k i)
  where
    same : (j : Kind) → kind_leap 0 j ≡ j
    same (Wave bank position) = refl
    same (Swept bank position s) = ap (λ (t : SweepModulate). Swept bank position t) (sweep-none s)
    same (Noise shift tap output) = refl

module _ (v : Voice) (h : v.channel.envelope.tick ≤ 307218) where
  pub voice-none : voice_leap 0 v ≡ v
  voice-none = none v.channel v.kind h

  -- one cycle more, short of the distance
  pub voice-more : (entries : List ℤ) (n : ℕ) → suc n ≤ voice_far v → voice_after entries (voice_leap n v) ≡ voice_leap (suc n) v
  unfolding voice_far
  voice-more entries n f =
      let k = within (least (live_far v.channel.live) (envelope_far v.channel.envelope)) (kind_far v.kind) f in
      let j = within (live_far v.channel.live) (envelope_far v.channel.envelope) k.0 in
      more v.channel n j.0 j.1 h entries v.kind k.1

-- a voice that passes the test can be leapt over

period-le : (k : Kind) → period_of k ≤ 40
unfolding period_of
period-le (Wave bank position) = omega arith
period-le (Swept bank position s) = omega arith
period-le (Noise shift tap output) = omega arith

module _ (n : ℕ) (v : Voice) where
  abbrev period : ℕ
  period = period_of v.kind

  abbrev frequency : ℕ
  frequency = frequency_of v.channel.pitch.frequency v.kind

  pitch-facts : pitchable period frequency v.channel.pitch ≡ true → Pitchable period frequency v.channel.pitch
  unfolding pitchable
  pitch-facts h =
      each (ltb v.channel.pitch.tick period) (leb frequency 2047 ∷ leb v.channel.pitch.counter 2047 ∷ []) h
      (λ k. record { tick = ltb-true _ _ k.0; short = period-le v.kind; low = leb-true _ _ k.1.0; counter = leb-true _ _ k.1.1.0 })

  pub leap-facts : leapable n v ≡ true → Leapable n v
  unfolding leapable voice_far
  leap-facts h =
      each (leb n (voice_far v)) (leb n 153608 ∷ ltb v.channel.envelope.tick 307219 ∷ pitchable period frequency v.channel.pitch ∷ []) h
      (λ k.
      let o = within (least (live_far v.channel.live) (envelope_far v.channel.envelope)) (kind_far v.kind) (leb-true _ _ k.0) in
      let l = within (live_far v.channel.live) (envelope_far v.channel.envelope) o.0 in
      let t : v.channel.envelope.tick < 307219 = ltb-true _ _ k.1.1.0 in
      record {
        tone = record { live = l.0; tick = omega arith; near = leb-true _ _ k.1.0; pitch = pitch-facts k.1.1.1.0 };
        swept = o.1;
      })

  pub leapable-is : {f t far : ℕ} {p : Bool} → f ≡ frequency → t ≡ period → far ≡ voice_far v → p ≡ pitchable t f v.channel.pitch → (leb n far && leb n 153608 && ltb v.channel.envelope.tick 307219 && p) ≡ leapable n v
  unfolding leapable
  leapable-is f t d p = rw (p, f, t, d)

  pub leap-taken : leapable n v ≡ true → {w : Voice} → w ≡ voice_leap n v → w ≡ leap_of n v
  unfolding leap_of
  leap-taken h e = rw h e

  pub leap-left : leapable n v ≡ false → v ≡ leap_of n v
  unfolding leap_of
  leap-left h = rw h

-- a voice in range passes it

module _ (v : Voice) {n : ℕ} (f : n ≤ voice_far v) (g : n ≤ 153608) where
  ready : (most : ℕ) → channel_in_range most v.channel ≡ true → most < period_of v.kind → frequency_of v.channel.pitch.frequency v.kind ≤ 2047 → leapable n v ≡ true
  unfolding leapable pitchable
  ready most r t l =
      let o : ChannelOk most v.channel = channel-facts most v.channel r in
      both
      (both (both (le-leb _ _ f) (le-leb _ _ g)) (lt-ltb v.channel.envelope.tick 307219 (omega (arith, o.envelope.tick))))
      (both (both (lt-ltb v.channel.pitch.tick (period_of v.kind) (omega (arith, o.pitch.tick, t))) (le-leb _ _ l)) (le-leb _ _ o.pitch.counter))

  abbrev By : ℕ → Kind → Type 0
  By most k = v.kind ≡ k → channel_in_range most v.channel ≡ true → leapable n v ≡ true

  by-wave : (k : Kind) → wave_kind_in_range k ≡ true → By 3 k
  unfolding wave_kind_in_range period_of frequency_of
  by-wave (Wave bank position) t e r =
      let p : period_of v.kind ≡ 4 = ap period_of e in
      let q : frequency_of v.channel.pitch.frequency v.kind ≡ v.channel.pitch.frequency = ap (frequency_of v.channel.pitch.frequency) e in
      ready 3 r (omega (arith, p)) (omega (arith, q, (channel-facts 3 v.channel r).pitch.frequency))
  by-wave (Swept bank position s) t e r = absurd (false≢true t)
  by-wave (Noise shift tap output) t e r = absurd (false≢true t)

  by-swept : (k : Kind) → swept_kind_in_range k ≡ true → By 3 k
  unfolding swept_kind_in_range period_of frequency_of
  by-swept (Wave bank position) t e r = absurd (false≢true t)
  by-swept (Swept bank position s) t e r =
      let p : period_of v.kind ≡ 4 = ap period_of e in
      let q : frequency_of v.channel.pitch.frequency v.kind ≡ s.current = ap (frequency_of v.channel.pitch.frequency) e in
      let o : s.current ≤ 2047 = each (leb bank 7) (leb position 31 ∷ sweep_in_range s ∷ []) t (λ j. (sweep-facts s j.1.1.0).current) in
      ready 3 r (omega (arith, p)) (omega (arith, q, o))
  by-swept (Noise shift tap output) t e r = absurd (false≢true t)

  by-noise : (k : Kind) → noise_kind_in_range k ≡ true → By 39 k
  unfolding noise_kind_in_range period_of frequency_of
  by-noise (Wave bank position) t e r = absurd (false≢true t)
  by-noise (Swept bank position s) t e r = absurd (false≢true t)
  by-noise (Noise shift tap output) t e r =
      let p : period_of v.kind ≡ 40 = ap period_of e in
      let q : frequency_of v.channel.pitch.frequency v.kind ≡ v.channel.pitch.frequency = ap (frequency_of v.channel.pitch.frequency) e in
      ready 39 r (omega (arith, p)) (omega (arith, q, (channel-facts 39 v.channel r).pitch.frequency))

  pub wave-leapable : wave_in_range v ≡ true → leapable n v ≡ true
  unfolding wave_in_range
  wave-leapable r = each (channel_in_range 3 v.channel) (wave_kind_in_range v.kind ∷ []) r (λ t. by-wave v.kind t.1.0 refl t.0)

  pub swept-leapable : swept_in_range v ≡ true → leapable n v ≡ true
  unfolding swept_in_range
  swept-leapable r = each (channel_in_range 3 v.channel) (swept_kind_in_range v.kind ∷ []) r (λ t. by-swept v.kind t.1.0 refl t.0)

  pub noise-leapable : noise_in_range v ≡ true → leapable n v ≡ true
  unfolding noise_in_range
  noise-leapable r = each (channel_in_range 39 v.channel) (noise_kind_in_range v.kind ∷ []) r (λ t. by-noise v.kind t.1.0 refl t.0)

-- channel 5 is never further than its sweep
pub swept-near : (v : Voice) → swept_in_range v ≡ true → {n : ℕ} → n ≤ voice_far v → n ≤ 153608
unfolding swept_in_range swept_kind_in_range voice_far kind_far
swept-near v r {n} f =
    let k = within (least (live_far v.channel.live) (envelope_far v.channel.envelope)) (kind_far v.kind) f in
    each (channel_in_range 3 v.channel) (swept_kind_in_range v.kind ∷ []) r (λ t. go v.kind t.1.0 k.1)
  where
    go : (k : Kind) → swept_kind_in_range k ≡ true → n ≤ kind_far k → n ≤ 153608
    go (Wave bank position) t h = absurd (false≢true t)
    go (Swept bank position s) t h = omega (arith, far-le s)
    go (Noise shift tap output) t h = absurd (false≢true t)

-- the sweep's leap first, then the others'

same-period : (n : ℕ) (k : Kind) → period_of (kind_leap n k) ≡ period_of k
unfolding period_of kind_leap
same-period n (Wave bank position) = refl
same-period n (Swept bank position s) = refl
same-period n (Noise shift tap output) = refl

same-frequency : (n written : ℕ) (k : Kind) → frequency_of written (kind_leap n k) ≡ frequency_of written k
unfolding frequency_of kind_leap sweep_leap
same-frequency n written (Wave bank position) = refl
same-frequency n written (Swept bank position s) = refl
same-frequency n written (Noise shift tap output) = refl

pub still-playable : {n : ℕ} {v w : Voice} → Leapable n v → w ≡ swept_leap n v → Playable n w
unfolding swept_leap
still-playable {n} {v} k e =
    rw e
    (record {
      live = k.tone.live;
      tick = k.tone.tick;
      near = k.tone.near;
      pitch = rw (same-period n v.kind, same-frequency n v.channel.pitch.frequency v.kind) k.tone.pitch;
    })

-- steps 1 to 3, put together from what their leaps give

module _
    (v : Voice)
    (n : ℕ)
    {c : Channel}
    {frequency period : ℕ}
    {s : Sampled}
    (e : c ≡ channel_leap n v.channel)
    (f : frequency ≡ frequency_of v.channel.pitch.frequency v.kind)
    (t : period ≡ period_of v.kind)
    (i : s ≡ pitch_after period frequency n v.channel.pitch)
  where
    abbrev moved : Channel
    moved = with_pitch c (with_tick_counter c.pitch s.pitch.tick s.pitch.counter)

    put_back : moved ≡ with_pitch (channel_leap n v.channel) s.pitch
    put_back =
        let stays : s.pitch.frequency ≡ v.channel.pitch.frequency =
        ap (λ (r : Sampled). r.pitch.frequency) i ∙ after-frequency period frequency n v.channel.pitch in
        λ j. with_pitch (e j) (record { tick = s.pitch.tick; frequency = (ap (λ (d : Channel). d.pitch.frequency) e ∙ sym stays) j; counter = s.pitch.counter })

    same : s ≡ sampled_after n v.channel v.kind
    same = i ∙ ap₂ (λ (a b : ℕ). pitch_after a b n v.channel.pitch) t f

    pub tone-sampled : {k : Kind} → k ≡ samples_on s.samples v.kind → voice_of moved k ≡ tone_leap n v
    unfolding tone_leap
    tone-sampled q =
        (λ j. voice_of (put_back j) (q j))
        ∙ ap (λ (r : Sampled). voice_of (with_pitch (channel_leap n v.channel) r.pitch) (samples_on r.samples v.kind)) same

    pub tone-still : s.samples ≤ 0 → voice_of moved v.kind ≡ tone_leap n v
    unfolding samples_on
    tone-still z = let o : 0 ≡ s.samples = omega arith in tone-sampled (ap (λ (m : ℕ). samples_on m v.kind) o)

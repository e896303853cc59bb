-- The cases of the definitions of specs/ChannelEnum.antt, one law each, over plain variables; then, that a voice in range stays in range.
use Prim.Native.Nat.{ℕ, zero, suc, ◌+◌, ◌*◌, ◌/◌, ◌%◌, ◌^◌, ◌<◌, ◌≤◌}
use mathlib.Core.Path.{◌≡◌, refl, sym, ap, ◌∙◌}
use mathlib.Core.Bool.{Bool, true, false, cond, not, ◌&&◌, beq, false≢true, true≢false, and-eq-true_iff}
use mathlib.Core.List.{List, [], ◌∷◌}
use native.Mathlib.Omega.{arith}
use borrow.Author.Tests.{eq-eqb, eqb-true, ne_eqb, le-leb, leb-true}
use lib.Dec.{eqb, leb, ltb}
use lib.IntN.{ℤ}
use lib.ListN.{length, get_or}
use Rattle.common.proofs.ChannelLaws.{side-le, pitch-frequency, channel-live-keeps, channel-pitch-keeps, channel-envelope-keeps, channel-stop-keeps, channel-write-keeps, level-le, left_le, right_le}
use Rattle.sweep.proofs.SweepModulateLaws.{sweep-write-keeps, sweep-step-keeps, sweep-step-channel}
use Rattle.laws.proofs.Cases.{both, each, ways}
use Rattle.common.specs.Bits.{bits}
use Rattle.common.specs.Channel.{with_pitch, with_tick_counter, with_envelope, pitch_step, envelope_step, channel_in_range, channel_write}
use Rattle.voice.specs.ChannelEnum.{voice_of, stop_voice, taps, is_in, common_offsets, offsets_of, has_offset, wave_write, noise_write, kind_write, period_of, frequency_of, new_bit, clocked, next_sample, sampled, step_frequency, step_sweep_of, step_sweep, is_tap, wave_kind_in_range, swept_kind_in_range, noise_kind_in_range, sample_of, heard, step_auto_stop, step_envelope, voice_write, wave_in_range, swept_in_range, noise_in_range}
use Rattle.sweep.specs.SweepModulate.{sweep_step, sweep_ticked, sweep_period, sweep_due, sweep_once, sweep_in_range, sweep_write}
use Rattle.voice.specs.Waveform.{sample_at}
use Rattle.common.specs.declared.channel.Channel.{Channel}
use Rattle.common.specs.declared.channel.Envelope.{Envelope}
use Rattle.common.specs.declared.channel.Pitched.{Pitched}
use Rattle.voice.specs.declared.channel_enum.Kind.{Kind}
use Rattle.voice.specs.declared.channel_enum.Kind.TheVariants.{Wave, Swept, Noise}
use Rattle.voice.specs.declared.channel_enum.Reading.{Reading}
use Rattle.voice.specs.declared.channel_enum.Voice.{Voice}
use Rattle.sweep.specs.declared.sweep_modulate.Stepped.{Stepped}
use Rattle.sweep.specs.declared.sweep_modulate.SweepModulate.{SweepModulate}

-- a write at an offset that the kind hasn't got leaves the voice as it is

abbrev pub Apart : ℕ → List ℕ → Type 0
Apart x [] = Unit
Apart x (y ∷ ys) = (eqb x y ≡ false) × Apart x ys

abbrev includes : List ℕ → List ℕ → Bool
includes l [] = true
includes l (x ∷ xs) = is_in x l && includes l xs

missed : (o x : ℕ) (l : List ℕ) → is_in o l ≡ false → is_in x l ≡ true → eqb o x ≡ false
missed o x l n h = go (eqb o x) refl
  where
    go : (t : Bool) → eqb o x ≡ t → t ≡ false
    go true e = absurd (true≢false (sym h ∙ ap (λ (y : ℕ). is_in y l) (sym (eqb-true o x e)) ∙ n))
    go false e = refl

apart : (o : ℕ) (l : List ℕ) → is_in o l ≡ false → (xs : List ℕ) → includes l xs ≡ true → Apart o xs
apart o l n [] h = tt
apart o l n (x ∷ xs) h = each (is_in x l) (includes l xs ∷ []) h (λ k. (missed o x l n k.0, apart o l n xs k.1.0))

module _ (o b : ℕ) where
  channel-still : (c : Channel) → Apart o common_offsets → channel_write o b c ≡ c
  unfolding channel_write
  channel-still c a = rw (a.0, a.1.0, a.1.1.0, a.1.1.1.0, a.1.1.1.1.0, a.1.1.1.1.1.0)

  pub no-offset : (v : Voice) → has_offset o v.kind ≡ false → voice_write o b v ≡ v
  unfolding voice_write kind_write wave_write noise_write sweep_write offsets_of
  no-offset v h = go v.channel v.kind h
    where
      go : (c : Channel) (k : Kind) → has_offset o k ≡ false → voice_of (channel_write o b c) (kind_write o b k) ≡ voice_of c k
      go c (Wave bank position) h =
          let a = apart o (offsets_of (Wave bank position)) h (0x18 ∷ common_offsets) refl in
          rw (channel-still c a.1, a.0, a.1.0)
      go c (Swept bank position sweep) h =
          let a = apart o (offsets_of (Swept bank position sweep)) h (0x1C ∷ 0x18 ∷ common_offsets) refl in
          let n : Apart o common_offsets = a.1.1 in
          rw (channel-still c n, a.0, a.1.0, n.0, n.1.1.0, n.1.1.1.0, n.1.1.1.1.1.0)
      go c (Noise shift tap output) h =
          let a : Apart o common_offsets = apart o (offsets_of (Noise shift tap output)) h common_offsets refl in
          rw (channel-still c a, a.0, a.1.1.1.1.1.0)

-- step 2

module _
    (v : Voice)
    {tick frequency : ℕ}
    {p : Pitched}
    (t : tick ≡ period_of v.kind)
    (f : frequency ≡ frequency_of v.channel.pitch.frequency v.kind)
    (e : p ≡ pitch_step tick frequency v.channel.pitch)
  where
    put_back : with_tick_counter v.channel.pitch p.pitch.tick p.pitch.counter ≡ p.pitch
    put_back =
        let stays : p.pitch.frequency ≡ v.channel.pitch.frequency = ap (λ (q : Pitched). q.pitch.frequency) e ∙ pitch-frequency _ _ _ in
        λ j. record { tick = p.pitch.tick; frequency = sym stays j; counter = p.pitch.counter }

    abbrev moved : Channel
    moved = with_pitch v.channel (with_tick_counter v.channel.pitch p.pitch.tick p.pitch.counter)

    pub sample-due : p.due ≡ true → voice_of moved (next_sample v.kind) ≡ step_frequency v
    unfolding step_frequency sampled
    sample-due d = rw (put_back, ← t, ← f, ← e, d)

    pub sample-stays : p.due ≡ false → voice_of moved v.kind ≡ step_frequency v
    unfolding step_frequency sampled
    sample-stays d = rw (put_back, ← t, ← f, ← e, d)

-- Each of the three steps moves a part that the other two don't read: their order within a voice can't be told from the state.

module _ (v : Voice) where
  pub frequency-auto-stop : step_frequency (step_auto_stop v) ≡ step_auto_stop (step_frequency v)
  unfolding step_frequency sampled step_auto_stop
  frequency-auto-stop = refl

  pub envelope-auto-stop : step_envelope (step_auto_stop v) ≡ step_auto_stop (step_envelope v)
  unfolding step_envelope step_auto_stop
  envelope-auto-stop = refl

  pub envelope-frequency : step_envelope (step_frequency v) ≡ step_frequency (step_envelope v)
  unfolding step_envelope step_frequency sampled
  envelope-frequency = refl

-- Nor can the sweep's place beside the envelope step. The other two come before it: it reads whether the voice plays, and moves the frequency.

split : {P : Type 0} (b : Bool) → (b ≡ true → P) → (b ≡ false → P) → P
split true t f = t refl
split false t f = f refl

module _ (entries : List ℤ) (c : Channel) (e : Envelope) where
  abbrev beside : Stepped → Stepped
  beside t = record { sweep = t.sweep; channel = with_envelope t.channel e }

  once-beside : (s : SweepModulate) → sweep_once (with_envelope c e) s ≡ beside (sweep_once c s)
  unfolding sweep_once
  once-beside s =
      split s.up (λ u. split (ltb 2047 (s.current + s.current / 2 ^ s.shift)) (λ o. rw (u, o)) (λ o. rw (u, o))) (λ u. rw u)

  due-beside : (s : SweepModulate) → sweep_due entries (with_envelope c e) s ≡ beside (sweep_due entries c s)
  unfolding sweep_due
  due-beside s =
      split (c.live.playing && s.enable && not (eqb s.interval 0)) (λ p.
      split s.modulate (λ m. rw (p, m)) (λ m. rw (p, m) (once-beside _)))
      (λ p. rw p)

  sweep-beside : (s : SweepModulate) → sweep_step entries (with_envelope c e) s ≡ beside (sweep_step entries c s)
  unfolding sweep_step sweep_ticked
  sweep-beside s =
      split (leb (sweep_period s) (s.step + 1)) (λ p.
      split (leb s.interval (s.counter + 1)) (λ i. rw (p, i) (due-beside _)) (λ i. rw (p, i)))
      (λ p. rw p)

module _ (entries : List ℤ) (c : Channel) where
  abbrev stepped : Envelope
  stepped = envelope_step c.envelope

  kept-beside : (s : SweepModulate) → c.envelope ≡ (sweep_step entries c s).channel.envelope
  kept-beside s = sym (ap (λ (t : Stepped). t.channel.envelope) (sweep-beside entries c c.envelope s))

  kind-beside : (k : Kind) → step_sweep_of entries (with_envelope c stepped) k ≡ step_envelope (step_sweep_of entries c k)
  unfolding step_envelope step_sweep_of
  kind-beside (Wave bank position) = refl
  kind-beside (Swept bank position sweep) =
      let t : Stepped = sweep_step entries c sweep in
      ap (λ (t : Stepped). voice_of t.channel (Swept bank position t.sweep)) (sweep-beside entries c stepped sweep)
      ∙ ap (λ (f : Envelope). voice_of (with_envelope t.channel (envelope_step f)) (Swept bank position t.sweep)) (kept-beside sweep)
  kind-beside (Noise shift tap output) = refl

pub sweep-envelope : (entries : List ℤ) (v : Voice) → step_sweep entries (step_envelope v) ≡ step_envelope (step_sweep entries v)
unfolding step_envelope
sweep-envelope entries v = kind-beside entries v.channel v.kind

-- A kind in range stays in range.

pub data WaveOk : Kind → Type 0 where
  wave : {bank position : ℕ} → bank ≤ 7 → position ≤ 31 → WaveOk (Wave bank position)

pub data SweptOk : Kind → Type 0 where
  swept : {bank position : ℕ} {sweep : SweepModulate} → bank ≤ 7 → position ≤ 31 → sweep_in_range sweep ≡ true → SweptOk (Swept bank position sweep)

pub data NoiseOk : Kind → Type 0 where
  noise :
      {shift tap : ℕ} {output : Bool}
      → shift ≤ 32767
      → is_tap tap ≡ true
      → beq output (eqb (shift % 2) 1) ≡ true
      → NoiseOk (Noise shift tap output)

pub wave-facts : (k : Kind) → wave_kind_in_range k ≡ true → WaveOk k
unfolding wave_kind_in_range
wave-facts (Wave bank position) h =
    each (leb bank 7) (leb position 31 ∷ []) h (λ t. wave (leb-true _ _ t.0) (leb-true _ _ t.1.0))
wave-facts (Swept bank position sweep) h = absurd (false≢true h)
wave-facts (Noise shift tap output) h = absurd (false≢true h)

pub wave-test : {k : Kind} → WaveOk k → wave_kind_in_range k ≡ true
unfolding wave_kind_in_range
wave-test (wave n p) = rw (le-leb _ _ n, le-leb _ _ p)

pub swept-facts : (k : Kind) → swept_kind_in_range k ≡ true → SweptOk k
unfolding swept_kind_in_range
swept-facts (Wave bank position) h = absurd (false≢true h)
swept-facts (Swept bank position sweep) h =
    each (leb bank 7) (leb position 31 ∷ sweep_in_range sweep ∷ []) h
    (λ t. swept (leb-true _ _ t.0) (leb-true _ _ t.1.0) t.1.1.0)
swept-facts (Noise shift tap output) h = absurd (false≢true h)

pub swept-test : {k : Kind} → SweptOk k → swept_kind_in_range k ≡ true
unfolding swept_kind_in_range
swept-test (swept n p s) = rw (le-leb _ _ n, le-leb _ _ p, s)

pub noise-facts : (k : Kind) → noise_kind_in_range k ≡ true → NoiseOk k
unfolding noise_kind_in_range
noise-facts (Wave bank position) h = absurd (false≢true h)
noise-facts (Swept bank position sweep) h = absurd (false≢true h)
noise-facts (Noise shift tap output) h =
    each (leb shift 32767) (is_tap tap ∷ beq output (eqb (shift % 2) 1) ∷ []) h
    (λ t. noise (leb-true _ _ t.0) t.1.0 t.1.1.0)

pub noise-test : {k : Kind} → NoiseOk k → noise_kind_in_range k ≡ true
unfolding noise_kind_in_range
noise-test (noise n t o) = rw (le-leb _ _ n, t, o)

abbrev are_taps : List ℕ → Bool
are_taps [] = true
are_taps (t ∷ ts) = is_tap t && are_taps ts

tap-in : (ts : List ℕ) (n : ℕ) → are_taps ts ≡ true → n < length ts → is_tap (get_or ts n 0) ≡ true
tap-in [] n a h = absurd (omega arith)
tap-in (t ∷ ts) zero a h = ((and-eq-true_iff (is_tap t) (are_taps ts)).0 a).0
tap-in (t ∷ ts) (suc n) a h = tap-in ts n ((and-eq-true_iff (is_tap t) (are_taps ts)).0 a).1 (omega arith)

module _ (o b : ℕ) where
  reading-ok : {n p : ℕ} → n ≤ 7 → p ≤ 31 → ((wave_write o b n p).bank ≤ 7) × ((wave_write o b n p).position ≤ 31)
  unfolding wave_write
  reading-ok h g =
      ways (λ (r : Reading). (r.bank ≤ 7) × (r.position ≤ 31)) (eqb o 0x00) (λ _. (h, omega arith)) (λ _.
      ways (λ (r : Reading). (r.bank ≤ 7) × (r.position ≤ 31)) (eqb o 0x18) (λ _. (omega arith, g)) (λ _. (h, g)))

  wave-write : {k : Kind} → WaveOk k → WaveOk (kind_write o b k)
  unfolding kind_write
  wave-write (wave n p) = wave (reading-ok n p).0 (reading-ok n p).1

  swept-write : {k : Kind} → b < 256 → SweptOk k → SweptOk (kind_write o b k)
  unfolding kind_write
  swept-write l (swept n p s) = swept (reading-ok n p).0 (reading-ok n p).1 (sweep-write-keeps _ s o b l)

  noise-write : {k : Kind} → NoiseOk k → NoiseOk (kind_write o b k)
  unfolding kind_write noise_write
  noise-write (noise n t q) =
      ways NoiseOk (eqb o 0x00) (λ _. noise (omega arith) t refl) (λ _.
      ways NoiseOk (eqb o 0x14) (λ _. noise n (tap-in taps (bits 4 3 b) refl (omega arith)) q) (λ _. noise n t q))

turn : (n : ℕ) → (n + 1) % 32 ≤ 31
turn n = omega arith

wave-next : {k : Kind} → WaveOk k → WaveOk (next_sample k)
unfolding next_sample
wave-next (wave n p) = wave n (turn _)

swept-next : {k : Kind} → SweptOk k → SweptOk (next_sample k)
unfolding next_sample
swept-next (swept n p s) = swept n (turn _) s

swept-sweep : {k : Kind} (entries : List ℤ) (c : Channel) → SweptOk k → SweptOk (step_sweep_of entries c k).kind
unfolding step_sweep_of
swept-sweep entries c (swept n p s) = swept n p (sweep-step-keeps _ s entries c)

new-bit : (shift tap : ℕ) (b : Bool) → is_tap tap ≡ true → NoiseOk (Noise (2 * shift % 32768 + cond b 1 0) tap b)
new-bit shift tap true t =
    noise {shift = 2 * shift % 32768 + 1} (omega arith) t (ap (beq true) (eq-eqb ((2 * shift % 32768 + 1) % 2) 1 (omega arith)))
new-bit shift tap false t =
    noise {shift = 2 * shift % 32768 + 0} (omega arith) t (ap (beq false) (ne_eqb ((2 * shift % 32768 + 0) % 2) 1 (λ e. omega arith)))

noise-next : {k : Kind} → NoiseOk k → NoiseOk (next_sample k)
unfolding next_sample clocked
noise-next (noise {shift} {tap} n t q) = new-bit shift tap (new_bit shift tap) t

-- the same over the tests

module _ (k : Kind) where
  module _ (h : wave_kind_in_range k ≡ true) where
    pub wave-write-keeps : (o b : ℕ) → wave_kind_in_range (kind_write o b k) ≡ true
    wave-write-keeps o b = wave-test (wave-write o b (wave-facts k h))

    pub wave-next-keeps : wave_kind_in_range (next_sample k) ≡ true
    wave-next-keeps = wave-test (wave-next (wave-facts k h))

  module _ (h : swept_kind_in_range k ≡ true) where
    pub swept-write-keeps : (o b : ℕ) → b < 256 → swept_kind_in_range (kind_write o b k) ≡ true
    swept-write-keeps o b l = swept-test (swept-write o b l (swept-facts k h))

    pub swept-next-keeps : swept_kind_in_range (next_sample k) ≡ true
    swept-next-keeps = swept-test (swept-next (swept-facts k h))

    pub swept-sweep-keeps : (entries : List ℤ) (c : Channel) → swept_kind_in_range (step_sweep_of entries c k).kind ≡ true
    swept-sweep-keeps entries c = swept-test (swept-sweep entries c (swept-facts k h))

  module _ (h : noise_kind_in_range k ≡ true) where
    pub noise-write-keeps : (o b : ℕ) → noise_kind_in_range (kind_write o b k) ≡ true
    noise-write-keeps o b = noise-test (noise-write o b (noise-facts k h))

    pub noise-next-keeps : noise_kind_in_range (next_sample k) ≡ true
    noise-next-keeps = noise-test (noise-next (noise-facts k h))

-- the most that a voice adds to a side, of waves whose samples are at most 63

module _ (waves : List ℕ) (w : (i : ℕ) → get_or waves i 0 ≤ 63) where
  at-le : (bank position : ℕ) → sample_at waves bank position ≤ 63
  unfolding sample_at
  at-le bank position = ways (λ n. n ≤ 63) (ltb 4 bank) (λ _. omega arith) (λ _. w (bank * 32 + position))

  pub sample-le : (k : Kind) → sample_of waves k ≤ 63
  unfolding sample_of
  sample-le (Wave bank position) = at-le bank position
  sample-le (Swept bank position sweep) = at-le bank position
  sample-le (Noise shift tap output) = ways (λ n. n ≤ 63) output (λ _. omega arith) (λ _. omega arith)

  pub heard-le : (volume : ℕ) → volume ≤ 15 → (v : Voice) → v.channel.envelope.level ≤ 15 → heard waves volume v ≤ 913
  unfolding heard
  heard-le volume p v l =
      ways (λ n. n ≤ 913) v.channel.live.playing (λ _. side-le _ volume _ l p (sample-le v.kind)) (λ _. omega arith)

-- A voice in range stays in range, and is within the bounds that `heard-le` wants: said once, of a test of kinds and a largest tick.

pub record Kept (R : Voice → Bool) : Type 0 where
  pub auto-stop : (v : Voice) → R v ≡ true → R (step_auto_stop v) ≡ true
  pub frequency-step : (v : Voice) → R v ≡ true → R (step_frequency v) ≡ true
  pub envelope-on : (v : Voice) → R v ≡ true → R (step_envelope v) ≡ true
  pub stop : (v : Voice) → R v ≡ true → R (stop_voice v) ≡ true
  pub write : (v : Voice) → R v ≡ true → (o b : ℕ) → b < 256 → R (voice_write o b v) ≡ true
  pub level : (v : Voice) → R v ≡ true → v.channel.envelope.level ≤ 15
  pub left : (v : Voice) → R v ≡ true → v.channel.left ≤ 15
  pub right : (v : Voice) → R v ≡ true → v.channel.right ≤ 15

module _ (most : ℕ) (K : Kind → Bool) where
  module _ (v : Voice) (h : (channel_in_range most v.channel && K v.kind) ≡ true) where
    channel-of : channel_in_range most v.channel ≡ true
    channel-of = ((and-eq-true_iff (channel_in_range most v.channel) (K v.kind)).0 h).0

    kind-of : K v.kind ≡ true
    kind-of = ((and-eq-true_iff (channel_in_range most v.channel) (K v.kind)).0 h).1

  module _
      (tick : (k : Kind) → K k ≡ true → period_of k ≤ most + 1)
      (next : (k : Kind) → K k ≡ true → K (next_sample k) ≡ true)
      (write : (k : Kind) → K k ≡ true → (o b : ℕ) → b < 256 → K (kind_write o b k) ≡ true)
    where
      sampled-in :
          (v : Voice)
          → K v.kind ≡ true
          → (p : Pitched)
          → channel_in_range most (with_pitch v.channel p.pitch) ≡ true
          → (channel_in_range most (sampled v p).channel && K (sampled v p).kind) ≡ true
      unfolding sampled
      sampled-in v k p q = both q (ways (λ n. K n ≡ true) p.due (λ _. next _ k) (λ _. k))

      kept : Kept (λ v. channel_in_range most v.channel && K v.kind)
      unfolding step_auto_stop step_frequency step_envelope voice_write
      kept =
          record {
            auto-stop = λ v h. both (channel-live-keeps most _ (channel-of v h)) (kind-of v h);
            frequency-step = λ v h. sampled-in v (kind-of v h) _ (channel-pitch-keeps most _ (channel-of v h) _ _ (tick _ (kind-of v h)));
            envelope-on = λ v h. both (channel-envelope-keeps most _ (channel-of v h)) (kind-of v h);
            stop = λ v h. both (channel-stop-keeps most _ (channel-of v h)) (kind-of v h);
            write = λ v h o b l. both (channel-write-keeps most _ (channel-of v h) o b l) (write _ (kind-of v h) o b l);
            level = λ v h. level-le most _ (channel-of v h);
            left = λ v h. left_le most _ (channel-of v h);
            right = λ v h. right_le most _ (channel-of v h);
          }

wave-tick : {k : Kind} → WaveOk k → period_of k ≤ 4
unfolding period_of
wave-tick (wave n p) = omega arith

swept-tick : {k : Kind} → SweptOk k → period_of k ≤ 4
unfolding period_of
swept-tick (swept n p s) = omega arith

noise-tick : {k : Kind} → NoiseOk k → period_of k ≤ 40
unfolding period_of
noise-tick (noise n t q) = omega arith

pub wave-kept : Kept wave_in_range
unfolding wave_in_range
wave-kept = kept 3 wave_kind_in_range (λ k h. wave-tick (wave-facts k h)) wave-next-keeps (λ k h o b l. wave-write-keeps k h o b)

pub swept_kept : Kept swept_in_range
unfolding swept_in_range
swept_kept = kept 3 swept_kind_in_range (λ k h. swept-tick (swept-facts k h)) swept-next-keeps swept-write-keeps

pub noise-kept : Kept noise_in_range
unfolding noise_in_range
noise-kept = kept 39 noise_kind_in_range (λ k h. noise-tick (noise-facts k h)) noise-next-keeps (λ k h o b l. noise-write-keeps k h o b)

-- step 4, at channel 5 alone

swept-channel : {k : Kind} (entries : List ℤ) (c : Channel) → SweptOk k → channel_in_range 3 (step_sweep_of entries c k).channel ≡ channel_in_range 3 c
unfolding step_sweep_of
swept-channel entries c (swept n p s) = sweep-step-channel _ s entries c 3

pub swept-on-keeps : (entries : List ℤ) (v : Voice) → swept_in_range v ≡ true → swept_in_range (step_sweep entries v) ≡ true
unfolding swept_in_range
swept-on-keeps entries v h =
    let k : swept_kind_in_range v.kind ≡ true = kind-of 3 swept_kind_in_range v h in
    both (swept-channel entries v.channel (swept-facts v.kind k) ∙ channel-of 3 swept_kind_in_range v h)
    (swept-sweep-keeps v.kind k entries v.channel)

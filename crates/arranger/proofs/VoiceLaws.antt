-- What two writes to one voice come to: which offset writes which of its parts, what the later of two leaves, what a register ignores.
use Rattle.std.specs.Prelude.{◌≡◌, ℕ, ◌+◌, ◌*◌, ◌/◌, ◌%◌, ◌<◌, Bool, true, false, cond, ◌&&◌, eqb, ltb, List, [], ◌∷◌}
use mathlib.Core.Path.{refl, sym, ap, ap₂, subst, ◌∙◌}
use native.Mathlib.Decide.{ℕ_discrete}
use native.Mathlib.Omega.{arith}
use borrow.Author.Tests.{eqb-true, le-ltb, lt-ltb, ltb-true, ne_eqb}
use Rattle.common.specs.Bits.{bits, bit, with_low, with_high}
use Rattle.common.specs.Channel.{channel_write, with_live, with_tick_counter_playing, write_envelope, write_envelope_mode, write_high, write_interval, write_low, write_volumes}
use Rattle.common.specs.declared.channel.Channel.{Channel}
use Rattle.sweep.specs.SweepModulate.{restart, rewrite, sweep_write, write_mode, write_sweep}
use Rattle.sweep.specs.declared.sweep_modulate.SweepModulate.{SweepModulate}
use Rattle.voice.specs.ChannelEnum.{kind_write, noise_write, stop_voice, tap_of, taps, voice_of, voice_write, wave_write}
use Rattle.voice.specs.declared.channel_enum.Kind.{Kind}
use Rattle.voice.specs.declared.channel_enum.Kind.TheVariants.{Wave, Swept, Noise}
use Rattle.voice.specs.declared.channel_enum.Reading.{Reading}
use Rattle.voice.specs.declared.channel_enum.Voice.{Voice}
use Rattle.voice.proofs.ChannelEnumLaws.{Apart}
use Rattle.laws.proofs.Cases.{each}
use Rattle.six.specs.Core.{off_voices, plays, voice_at}
use Rattle.table.proofs.TableLaws as table
use Rattle.table.proofs.TableLaws.{below}
use Rattle.arranger.specs.Arranger.{is_kind, kept}

-- one offset after the other, and then any that is none of them

abbrev pub Each : (ℕ → Type 0) → List ℕ → Type 0
Each P [] = Unit
Each P (k ∷ ks) = P k × Each P ks

pub by-offset : (P : ℕ → Type 0) (ks : List ℕ) → Each P ks → (o : ℕ) → (Apart o ks → P o) → P o
by-offset P [] e o r = r tt
by-offset P (k ∷ ks) e o r = go (ℕ_discrete o k) (λ n. by-offset P ks e.1 o (λ a. r (ne_eqb o k n, a)))
  where
    go : Dec (o ≡ k) → ((o ≡ k → ⊥) → P o) → P o
    go (yes p) other = subst P (sym p) e.0
    go (no n) other = other n

abbrev pub offsets : List ℕ
offsets = 0x00 ∷ 0x04 ∷ 0x08 ∷ 0x0C ∷ 0x10 ∷ 0x14 ∷ 0x18 ∷ 0x1C ∷ []

-- The parts of a voice, each with the offset that writes it.

-- a part that the write at offset k makes x
unfoldable put : {A : Type 0} → ℕ → ℕ → A → A → A
put k o x old = cond (eqb o k) x old

-- the frequencies are the parts with two
abbrev frequency_part : ℕ → ℕ → ℕ → ℕ
frequency_part o b f = put 0x08 o (with_low b f) (put 0x0C o (with_high b f) f)

abbrev channel_parts : ℕ → ℕ → Channel → Channel
channel_parts o b c =
    record {
      live =
          record {
            tick = c.live.tick;
            interval = put 0x00 o (bits 0 5 b) c.live.interval;
            counter = put 0x00 o (bits 0 5 b) c.live.counter;
            auto = put 0x00 o (bit 5 b) c.live.auto;
            playing = put 0x00 o (bit 7 b) c.live.playing;
          };
      pitch = record { tick = c.pitch.tick; frequency = frequency_part o b c.pitch.frequency; counter = put 0x00 o 0 c.pitch.counter };
      envelope =
          record {
            tick = c.envelope.tick;
            interval = put 0x10 o (bits 0 3 b) c.envelope.interval;
            step = put 0x00 o 0 c.envelope.step;
            level = put 0x10 o (bits 4 4 b) c.envelope.level;
            reload = put 0x10 o (bits 4 4 b) c.envelope.reload;
            up = put 0x10 o (bit 3 b) c.envelope.up;
            on = put 0x14 o (bit 0 b) c.envelope.on;
            looped = put 0x14 o (bit 1 b) c.envelope.looped;
          };
      left = put 0x04 o (bits 4 4 b) c.left;
      right = put 0x04 o (bits 0 4 b) c.right;
    }

abbrev sweep_parts : ℕ → ℕ → SweepModulate → SweepModulate
sweep_parts o b s =
    record {
      step = put 0x00 o 0 s.step;
      last = frequency_part o b s.last;
      current = s.current;
      next = frequency_part o b s.next;
      interval = put 0x1C o (bits 4 3 b) s.interval;
      shift = put 0x1C o (bits 0 3 b) s.shift;
      counter = s.counter;
      index = put 0x00 o 0 s.index;
      enable = put 0x14 o (bit 6 b) s.enable;
      looped = put 0x14 o (bit 5 b) s.looped;
      modulate = put 0x14 o (bit 4 b) s.modulate;
      slow = put 0x1C o (bit 7 b) s.slow;
      up = put 0x1C o (bit 3 b) s.up;
    }

abbrev reading_parts : ℕ → ℕ → ℕ → ℕ → Reading
reading_parts o b bank position = record { bank = put 0x18 o (b % 8) bank; position = put 0x00 o 0 position }

abbrev kind_parts : ℕ → ℕ → Kind → Kind
kind_parts o b (Wave bank position) = Wave (put 0x18 o (b % 8) bank) (put 0x00 o 0 position)
kind_parts o b (Swept bank position sweep) = Swept (put 0x18 o (b % 8) bank) (put 0x00 o 0 position) (sweep_parts o b sweep)
kind_parts o b (Noise shift tap output) = Noise (put 0x00 o 0 shift) (put 0x14 o (tap_of b) tap) (put 0x00 o false output)

abbrev voice_parts : ℕ → ℕ → Voice → Voice
voice_parts o b v = voice_of (channel_parts o b v.channel) (kind_parts o b v.kind)

module _ (b : ℕ) where
  channel-parts : (c : Channel) (o : ℕ) → channel_write o b c ≡ channel_parts o b c
  unfolding put channel_write write_interval write_volumes write_low write_high write_envelope write_envelope_mode
  channel-parts c o =
      by-offset (λ o. channel_write o b c ≡ channel_parts o b c) (0x00 ∷ 0x04 ∷ 0x08 ∷ 0x0C ∷ 0x10 ∷ 0x14 ∷ [])
      (refl, (refl, (refl, (refl, (refl, (refl, tt))))))
      o
      (λ a. rw (a.0, a.1.0, a.1.1.0, a.1.1.1.0, a.1.1.1.1.0, a.1.1.1.1.1.0))

  sweep-parts : (s : SweepModulate) (o : ℕ) → sweep_write o b s ≡ sweep_parts o b s
  unfolding put sweep_write restart rewrite write_mode write_sweep
  sweep-parts s o =
      by-offset (λ o. sweep_write o b s ≡ sweep_parts o b s) (0x00 ∷ 0x08 ∷ 0x0C ∷ 0x14 ∷ 0x1C ∷ []) (refl, (refl, (refl, (refl, (refl, tt))))) o
      (λ a. rw (a.0, a.1.0, a.1.1.0, a.1.1.1.0, a.1.1.1.1.0))

  reading-parts : (bank position o : ℕ) → wave_write o b bank position ≡ reading_parts o b bank position
  unfolding put wave_write
  reading-parts bank position o =
      by-offset (λ o. wave_write o b bank position ≡ reading_parts o b bank position) (0x00 ∷ 0x18 ∷ []) (refl, (refl, tt)) o (λ a. rw (a.0, a.1.0))

  kind-parts : (k : Kind) (o : ℕ) → kind_write o b k ≡ kind_parts o b k
  unfolding put kind_write noise_write
  kind-parts (Wave bank position) o = rw (reading-parts bank position o)
  kind-parts (Swept bank position sweep) o = rw (reading-parts bank position o, sweep-parts sweep o)
  kind-parts (Noise shift tap output) o =
      by-offset (λ o. kind_write o b (Noise shift tap output) ≡ kind_parts o b (Noise shift tap output)) (0x00 ∷ 0x14 ∷ []) (refl, (refl, tt)) o
      (λ a. rw (a.0, a.1.0))

  voice-parts : (o : ℕ) (v : Voice) → voice_write o b v ≡ voice_parts o b v
  unfolding voice_write
  voice-parts o v = ap₂ voice_of (channel-parts v.channel o) (kind-parts v.kind o)

-- Two writes at different offsets.

low-high : (b d f : ℕ) → b < 256 → with_low b (with_high d f) ≡ with_high d (with_low b f)
low-high b d f h = let m : ℕ = bits 0 3 d in go m
  where
    go : (m : ℕ) → (m * 256 + f % 256) / 256 * 256 + b ≡ m * 256 + (f / 256 * 256 + b) % 256
    go m = omega (arith, h)

module _ {o p : ℕ} (n : o ≡ p → ⊥) where
  swap : {A : Type 0} (k : ℕ) (x y old : A) → put k o x (put k p y old) ≡ put k p y (put k o x old)
  unfolding put
  swap k x y old = go (eqb o k) (eqb p k) refl refl
    where
      go : (s t : Bool) → eqb o k ≡ s → eqb p k ≡ t → cond s x (cond t y old) ≡ cond t y (cond s x old)
      go true true e h = absurd (n (eqb-true o k e ∙ sym (eqb-true p k h)))
      go true false e h = refl
      go false true e h = refl
      go false false e h = refl

module _ {b d : ℕ} (h : b < 256) (g : d < 256) where
  abbrev Swapped : ℕ → ℕ → ℕ → Type 0
  Swapped f o p = (o ≡ p → ⊥) → frequency_part o b (frequency_part p d f) ≡ frequency_part p d (frequency_part o b f)

  swap-frequency : (f o p : ℕ) → Swapped f o p
  unfolding put
  swap-frequency f o p =
      by-offset (λ o. Swapped f o p) (0x08 ∷ 0x0C ∷ []) (
        by-offset (Swapped f 0x08) (0x08 ∷ 0x0C ∷ []) (λ n. absurd (n refl), (λ _. low-high b d f h, tt)) p (λ a n. rw (a.0, a.1.0)),
        (
          by-offset (Swapped f 0x0C) (0x08 ∷ 0x0C ∷ []) (λ _. sym (low-high d b f g), (λ n. absurd (n refl), tt)) p (λ a n. rw (a.0, a.1.0)),
          tt,
        ),
      )
      o
      (λ a n. rw (a.0, a.1.0))

module _ {b d o p : ℕ} (h : b < 256) (g : d < 256) (n : o ≡ p → ⊥) where
  swap-channel : (c : Channel) → channel_parts o b (channel_parts p d c) ≡ channel_parts p d (channel_parts o b c)
  swap-channel c =
      λ j.
      record {
        live =
            record {
              tick = c.live.tick;
              interval = swap n 0x00 (bits 0 5 b) (bits 0 5 d) c.live.interval j;
              counter = swap n 0x00 (bits 0 5 b) (bits 0 5 d) c.live.counter j;
              auto = swap n 0x00 (bit 5 b) (bit 5 d) c.live.auto j;
              playing = swap n 0x00 (bit 7 b) (bit 7 d) c.live.playing j;
            };
        pitch =
            record {
              tick = c.pitch.tick;
              frequency = swap-frequency h g c.pitch.frequency o p n j;
              counter = swap n 0x00 0 0 c.pitch.counter j;
            };
        envelope =
            record {
              tick = c.envelope.tick;
              interval = swap n 0x10 (bits 0 3 b) (bits 0 3 d) c.envelope.interval j;
              step = swap n 0x00 0 0 c.envelope.step j;
              level = swap n 0x10 (bits 4 4 b) (bits 4 4 d) c.envelope.level j;
              reload = swap n 0x10 (bits 4 4 b) (bits 4 4 d) c.envelope.reload j;
              up = swap n 0x10 (bit 3 b) (bit 3 d) c.envelope.up j;
              on = swap n 0x14 (bit 0 b) (bit 0 d) c.envelope.on j;
              looped = swap n 0x14 (bit 1 b) (bit 1 d) c.envelope.looped j;
            };
        left = swap n 0x04 (bits 4 4 b) (bits 4 4 d) c.left j;
        right = swap n 0x04 (bits 0 4 b) (bits 0 4 d) c.right j;
      }

  swap-sweep : (s : SweepModulate) → sweep_parts o b (sweep_parts p d s) ≡ sweep_parts p d (sweep_parts o b s)
  swap-sweep s =
      λ j.
      record {
        step = swap n 0x00 0 0 s.step j;
        last = swap-frequency h g s.last o p n j;
        current = s.current;
        next = swap-frequency h g s.next o p n j;
        interval = swap n 0x1C (bits 4 3 b) (bits 4 3 d) s.interval j;
        shift = swap n 0x1C (bits 0 3 b) (bits 0 3 d) s.shift j;
        counter = s.counter;
        index = swap n 0x00 0 0 s.index j;
        enable = swap n 0x14 (bit 6 b) (bit 6 d) s.enable j;
        looped = swap n 0x14 (bit 5 b) (bit 5 d) s.looped j;
        modulate = swap n 0x14 (bit 4 b) (bit 4 d) s.modulate j;
        slow = swap n 0x1C (bit 7 b) (bit 7 d) s.slow j;
        up = swap n 0x1C (bit 3 b) (bit 3 d) s.up j;
      }

  swap-kind : (k : Kind) → kind_parts o b (kind_parts p d k) ≡ kind_parts p d (kind_parts o b k)
  swap-kind (Wave bank position) = λ j. Wave (swap n 0x18 (b % 8) (d % 8) bank j) (swap n 0x00 0 0 position j)
  swap-kind (Swept bank position sweep) =
      λ j. Swept (swap n 0x18 (b % 8) (d % 8) bank j) (swap n 0x00 0 0 position j) (swap-sweep sweep j)
  swap-kind (Noise shift tap output) =
      λ j. Noise (swap n 0x00 0 0 shift j) (swap n 0x14 (tap_of b) (tap_of d) tap j) (swap n 0x00 false false output j)

  pub offsets-apart : (v : Voice) → voice_write o b (voice_write p d v) ≡ voice_write p d (voice_write o b v)
  offsets-apart v =
      ap (voice_write o b) (voice-parts d p v)
      ∙ voice-parts b o (voice_parts p d v)
      ∙ ap₂ voice_of (swap-channel v.channel) (swap-kind v.kind)
      ∙ sym (ap (voice_write p d) (voice-parts b o v) ∙ voice-parts d p (voice_parts o b v))

-- Two writes at one offset: the later one stays.

low-low : (b d f : ℕ) → d < 256 → with_low b (with_low d f) ≡ with_low b f
low-low b d f h = omega (arith, h)

high-high : (b d f : ℕ) → with_high b (with_high d f) ≡ with_high b f
high-high b d f = let m : ℕ = bits 0 3 d in ap (λ (x : ℕ). bits 0 3 b * 256 + x) (go m)
  where
    go : (m : ℕ) → (m * 256 + f % 256) % 256 ≡ f % 256
    go m = omega arith

module _ (b d : ℕ) (h : d < 256) where
  abbrev AtOne : {A : Type 0} → (ℕ → ℕ → A → A) → A → ℕ → Type 0
  AtOne f x o = f o b (f o d x) ≡ f o b x

  one-channel : (c : Channel) (o : ℕ) → AtOne channel_write c o
  unfolding channel_write write_interval write_volumes write_low write_high write_envelope write_envelope_mode
  one-channel c o =
      by-offset (AtOne channel_write c) (0x00 ∷ 0x04 ∷ 0x08 ∷ 0x0C ∷ 0x10 ∷ 0x14 ∷ [])
      (refl, (refl, (rw (low-low b d c.pitch.frequency h), (rw (high-high b d c.pitch.frequency), (refl, (refl, tt))))))
      o
      (λ a. rw (a.0, a.1.0, a.1.1.0, a.1.1.1.0, a.1.1.1.1.0, a.1.1.1.1.1.0))

  one-sweep : (s : SweepModulate) (o : ℕ) → AtOne sweep_write s o
  unfolding sweep_write restart rewrite write_mode write_sweep
  one-sweep s o =
      by-offset (AtOne sweep_write s) (0x00 ∷ 0x08 ∷ 0x0C ∷ 0x14 ∷ 0x1C ∷ [])
      (refl, (rw (low-low b d s.last h, low-low b d s.next h), (rw (high-high b d s.last, high-high b d s.next), (refl, (refl, tt)))))
      o
      (λ a. rw (a.0, a.1.0, a.1.1.0, a.1.1.1.0, a.1.1.1.1.0))

  one-kind : (k : Kind) (o : ℕ) → AtOne kind_write k o
  unfolding kind_write wave_write noise_write
  one-kind (Wave bank position) o =
      by-offset (AtOne kind_write (Wave bank position)) (0x00 ∷ 0x18 ∷ []) (refl, (refl, tt)) o (λ a. rw (a.0, a.1.0))
  one-kind (Swept bank position sweep) o =
      rw (one-sweep sweep o)
      (by-offset
      (λ o. kind_write o b (Swept (wave_write o d bank position).bank (wave_write o d bank position).position sweep) ≡ kind_write o b (Swept bank position sweep))
      (0x00 ∷ 0x18 ∷ [])
      (refl, (refl, tt))
      o
      (λ a. rw (a.0, a.1.0)))
  one-kind (Noise shift tap output) o =
      by-offset (AtOne kind_write (Noise shift tap output)) (0x00 ∷ 0x14 ∷ []) (refl, (refl, tt)) o
      (λ a. rw (a.0, a.1.0) (rw (a.0, a.1.0)))

  pub later-stays : (o : ℕ) (v : Voice) → voice_write o b (voice_write o d v) ≡ voice_write o b v
  unfolding voice_write
  later-stays o v = ap₂ voice_of (one-channel v.channel o) (one-kind v.kind o)

-- Which writes change whether a voice plays.

module _ (o b : ℕ) (v : Voice) where
  pub plays-stays : eqb o 0x00 ≡ false → plays (voice_write o b v) ≡ plays v
  unfolding put
  plays-stays e = ap plays (voice-parts b o v) ∙ rw e

  -- a voice that is written to and then stopped, or stopped and then written to
  pub stop-apart : (eqb o 0x00 && bit 7 b) ≡ false → stop_voice (voice_write o b v) ≡ voice_write o b (stop_voice v)
  unfolding put
  stop-apart e =
      ap stop_voice (voice-parts b o v)
      ∙ ap (λ (x : Bool). voice_of (playing (channel_parts o b v.channel) x) (kind_parts o b v.kind)) (sym (off (eqb o 0x00) refl e))
      ∙ sym (voice-parts b o (stop_voice v))
    where
      playing : Channel → Bool → Channel
      playing c x = with_live c (with_tick_counter_playing c.live c.live.tick c.live.counter x)

      off : (t : Bool) → eqb o 0x00 ≡ t → (t && bit 7 b) ≡ false → put 0x00 o (bit 7 b) false ≡ false
      off true f e = rw (f, e)
      off false f e = rw f

pub plays-written : (b : ℕ) (v : Voice) → plays (voice_write 0x00 b v) ≡ bit 7 b
unfolding voice_write channel_write write_interval
plays-written b v = refl

-- What a register ignores: the bits that it keeps do what the byte does.

-- a law of bytes is a table of 256
pub on-bytes : (f g : ℕ → ℕ) → below (λ b. eqb (f b) (g b)) 256 ≡ true → {b : ℕ} → b < 256 → f b ≡ g b
on-bytes f g t {b} h = eqb-true (f b) (g b) (table.at (λ b. eqb (f b) (g b)) 256 b t h)

abbrev kept_interval : ℕ → ℕ
kept_interval b = bits 7 1 b * 128 + bits 0 6 b

abbrev kept_mode : ℕ → ℕ
kept_mode b = bits 4 3 b * 16 + bits 0 2 b

module _ {b : ℕ} (h : b < 256) where
  same-interval : (c : Channel) → write_interval (kept_interval b) c ≡ write_interval b c
  unfolding write_interval
  same-interval c =
      let interval : bits 0 5 (kept_interval b) ≡ bits 0 5 b = on-bytes (λ x. bits 0 5 (kept_interval x)) (bits 0 5) refl h in
      let auto : bits 5 1 (kept_interval b) ≡ bits 5 1 b = on-bytes (λ x. bits 5 1 (kept_interval x)) (bits 5 1) refl h in
      let play : bits 7 1 (kept_interval b) ≡ bits 7 1 b = on-bytes (λ x. bits 7 1 (kept_interval x)) (bits 7 1) refl h in
      rw (interval, auto, play)

  same-high : (f : ℕ) → with_high (bits 0 3 b) f ≡ with_high b f
  same-high f = let high : bits 0 3 (bits 0 3 b) ≡ bits 0 3 b = on-bytes (λ x. bits 0 3 (bits 0 3 x)) (bits 0 3) refl h in rw high

  same-mode : (t : Bool) (c : Channel) → write_envelope_mode (cond t (bits 0 2 b) (kept_mode b)) c ≡ write_envelope_mode b c
  unfolding write_envelope_mode
  same-mode true c =
      let on : bits 0 1 (bits 0 2 b) ≡ bits 0 1 b = on-bytes (λ x. bits 0 1 (bits 0 2 x)) (bits 0 1) refl h in
      let looped : bits 1 1 (bits 0 2 b) ≡ bits 1 1 b = on-bytes (λ x. bits 1 1 (bits 0 2 x)) (bits 1 1) refl h in
      rw (on, looped)
  same-mode false c =
      let on : bits 0 1 (kept_mode b) ≡ bits 0 1 b = on-bytes (λ x. bits 0 1 (kept_mode x)) (bits 0 1) refl h in
      let looped : bits 1 1 (kept_mode b) ≡ bits 1 1 b = on-bytes (λ x. bits 1 1 (kept_mode x)) (bits 1 1) refl h in
      rw (on, looped)

  same-sweep-mode : (s : SweepModulate) → write_mode (kept_mode b) s ≡ write_mode b s
  unfolding write_mode
  same-sweep-mode s =
      let modulate : bits 4 1 (kept_mode b) ≡ bits 4 1 b = on-bytes (λ x. bits 4 1 (kept_mode x)) (bits 4 1) refl h in
      let looped : bits 5 1 (kept_mode b) ≡ bits 5 1 b = on-bytes (λ x. bits 5 1 (kept_mode x)) (bits 5 1) refl h in
      let enable : bits 6 1 (kept_mode b) ≡ bits 6 1 b = on-bytes (λ x. bits 6 1 (kept_mode x)) (bits 6 1) refl h in
      rw (modulate, looped, enable)

  same-tap : tap_of (kept_mode b) ≡ tap_of b
  same-tap = let code : bits 4 3 (kept_mode b) ≡ bits 4 3 b = on-bytes (λ x. bits 4 3 (kept_mode x)) (bits 4 3) refl h in rw code

  same-bank : bits 0 3 b % 8 ≡ b % 8
  same-bank = on-bytes (λ x. bits 0 3 x % 8) (λ x. x % 8) refl h

module _ (k : ℕ) {b : ℕ} (h : b < 256) where
  abbrev Same : {A : Type 0} → (ℕ → ℕ → A → A) → A → ℕ → Type 0
  Same f x o = f o (kept k o b) x ≡ f o b x

  same-channel : (c : Channel) (o : ℕ) → Same channel_write c o
  unfolding kept channel_write write_high
  same-channel c o =
      by-offset (Same channel_write c) (0x00 ∷ 0x04 ∷ 0x08 ∷ 0x0C ∷ 0x10 ∷ 0x14 ∷ [])
      (same-interval h c, (refl, (refl, (rw (same-high h c.pitch.frequency), (refl, (same-mode h (ltb k 4) c, tt))))))
      o
      (λ a. rw (a.0, a.1.0, a.1.1.0, a.1.1.1.0, a.1.1.1.1.0, a.1.1.1.1.1.0))

  same-sweep : eqb k 4 ≡ true → (s : SweepModulate) (o : ℕ) → Same sweep_write s o
  unfolding kept sweep_write rewrite
  same-sweep e s o =
      by-offset (Same sweep_write s) (0x00 ∷ 0x08 ∷ 0x0C ∷ 0x14 ∷ 0x1C ∷ [])
      (refl, (refl, (rw (same-high h s.last, same-high h s.next), (rw (le-ltb k 4 (omega (arith, eqb-true k 4 e))) (same-sweep-mode h s), (rw e, tt)))))
      o
      (λ a. rw (a.0, a.1.0, a.1.1.0, a.1.1.1.0, a.1.1.1.1.0))

  same-reading : ltb k 5 ≡ true → (bank position o : ℕ) → wave_write o (kept k o b) bank position ≡ wave_write o b bank position
  unfolding kept wave_write
  same-reading e bank position o =
      by-offset (λ o. wave_write o (kept k o b) bank position ≡ wave_write o b bank position) (0x00 ∷ 0x18 ∷ [])
      (refl, (rw (e, same-bank h), tt))
      o
      (λ a. rw (a.0, a.1.0))

  same-noise : ltb k 4 ≡ false → (shift tap : ℕ) (output : Bool) (o : ℕ) → noise_write o (kept k o b) shift tap output ≡ noise_write o b shift tap output
  unfolding kept noise_write
  same-noise e shift tap output o =
      by-offset (λ o. noise_write o (kept k o b) shift tap output ≡ noise_write o b shift tap output) (0x00 ∷ 0x14 ∷ [])
      (refl, (rw (e, same-tap h), tt))
      o
      (λ a. rw (a.0, a.1.0))

  same_kind : (x : Kind) → is_kind k x ≡ true → (o : ℕ) → Same kind_write x o
  unfolding kind_write
  same_kind (Wave bank position) e o = rw (same-reading (lt-ltb k 5 (omega (arith, ltb-true k 4 e))) bank position o)
  same_kind (Swept bank position sweep) e o =
      rw (same-reading (lt-ltb k 5 (omega (arith, eqb-true k 4 e))) bank position o, same-sweep e sweep o)
  same_kind (Noise shift tap output) e o = same-noise (le-ltb k 4 (omega (arith, eqb-true k 5 e))) shift tap output o

  pub kept-writes : (o : ℕ) (v : Voice) → is_kind k v.kind ≡ true → voice_write o (kept k o b) v ≡ voice_write o b v
  unfolding voice_write
  kept-writes o v e = ap₂ voice_of (same-channel v.channel o) (same_kind v.kind e o)

-- What a register keeps: it can be read back from the voice.

abbrev number : Bool → ℕ
number t = cond t 1 0

abbrev tap_number : ℕ → List ℕ → ℕ
tap_number t [] = 0
tap_number t (x ∷ xs) = cond (eqb t x) 0 (1 + tap_number t xs)

abbrev read_channel : ℕ → Channel → ℕ
read_channel o c =
    cond (eqb o 0x00) (number c.live.playing * 128 + number c.live.auto * 32 + c.live.interval)
    (cond (eqb o 0x04) (c.left * 16 + c.right)
    (cond (eqb o 0x08) (c.pitch.frequency % 256)
    (cond (eqb o 0x0C) (c.pitch.frequency / 256)
    (cond (eqb o 0x10) (c.envelope.reload * 16 + number c.envelope.up * 8 + c.envelope.interval)
    (cond (eqb o 0x14) (number c.envelope.looped * 2 + number c.envelope.on) 0)))))

abbrev read_kind : ℕ → Kind → ℕ
read_kind o (Wave bank position) = cond (eqb o 0x18) bank 0
read_kind o (Swept bank position s) =
    cond (eqb o 0x14) (number s.enable * 64 + number s.looped * 32 + number s.modulate * 16)
    (cond (eqb o 0x18) bank (cond (eqb o 0x1C) (number s.slow * 128 + s.interval * 16 + number s.up * 8 + s.shift) 0))
read_kind o (Noise shift tap output) = cond (eqb o 0x14) (tap_number tap taps * 16) 0

abbrev pub read : ℕ → Voice → ℕ
read o v = read_channel o v.channel + read_kind o v.kind

-- of the voices of power-on, at every offset and byte

abbrev Back : ℕ → ℕ → ℕ → Type 0
Back k o b = read o (voice_write o b (voice_at k off_voices)) ≡ kept k o b

abbrev back_at : ℕ → ℕ → ℕ → Bool
back_at k o b = eqb (read o (voice_write o b (voice_at k off_voices))) (kept k o b)

abbrev backs : ℕ → List ℕ → Bool
backs k [] = true
backs k (o ∷ os) = below (back_at k o) 256 && backs k os

all_back : below (λ k. backs k offsets) 6 ≡ true
unfolding voice_write channel_write write_interval write_volumes write_low write_high write_envelope write_envelope_mode kind_write wave_write noise_write sweep_write restart rewrite write_mode write_sweep kept
all_back = refl

module _ (k : ℕ) {b : ℕ} (h : b < 256) where
  each_back : (os : List ℕ) → backs k os ≡ true → Each (λ o. Back k o b) os
  each_back [] t = tt
  each_back (o ∷ os) t =
      each (below (back_at k o) 256) (backs k os ∷ []) t
      (λ p. (eqb-true _ _ (table.at (back_at k o) 256 b p.0 h), each_back os p.1.0))

  none-back : (o : ℕ) → Apart o offsets → Back k o b
  unfolding kept
  none-back o a = go (voice_write o b (voice_at k off_voices)).kind
    where
      go : (x : Kind) → read_channel o (voice_write o b (voice_at k off_voices)).channel + read_kind o x ≡ kept k o b
      go (Wave bank position) = rw (a.0, a.1.0, a.1.1.0, a.1.1.1.0, a.1.1.1.1.0, a.1.1.1.1.1.0, a.1.1.1.1.1.1.0, a.1.1.1.1.1.1.1.0)
      go (Swept bank position sweep) = rw (a.0, a.1.0, a.1.1.0, a.1.1.1.0, a.1.1.1.1.0, a.1.1.1.1.1.0, a.1.1.1.1.1.1.0, a.1.1.1.1.1.1.1.0)
      go (Noise shift tap output) = rw (a.0, a.1.0, a.1.1.0, a.1.1.1.0, a.1.1.1.1.0, a.1.1.1.1.1.0, a.1.1.1.1.1.1.0, a.1.1.1.1.1.1.1.0)

  pub reads-back : k < 6 → (o : ℕ) → Back k o b
  reads-back l o =
      by-offset (λ o. Back k o b) offsets (each_back offsets (table.at (λ k. backs k offsets) 6 k all_back l)) o (none-back o)

-- What two writes to the unit come to, part by part of its state: the voices, the waves, the modulation entries.
use Rattle.std.specs.Prelude.{◌≡◌, ℕ, zero, suc, ◌-◌, ◌/◌, ◌%◌, ◌<◌, ◌≤◌, Bool, true, false, cond, ◌||◌, ltb, ◌≢◌, List, [], ◌∷◌, map, length, set, ℤ}
use mathlib.Core.Path.{refl, sym, ap, ◌∙◌}
use mathlib.Core.Bool.{or-true}
use mathlib.Core.List.{map-map}
use native.Mathlib.Decide.{ℕ_discrete}
use native.Mathlib.Omega.{arith}
use borrow.Author.Tests.{ltb-true, ltb-false}
use lib.Seq.{get_or-set_same, get_or-set_other, set_comm, set_out, set-set}
use Rattle.common.specs.Bits.{bit, signed}
use Rattle.six.specs.Core.{any_plays, off_wave, plays, voice_at}
use Rattle.voice.specs.ChannelEnum.{stop_voice, voice_write}
use Rattle.voice.specs.declared.channel_enum.Voice.{Voice}
use Rattle.vsu.proofs.CoreLaws.{decode-channel}
use Rattle.vsu.specs.Core.{decode_of, with_modulation, with_voices, with_waves, write, write_to}
use Rattle.vsu.specs.declared.unit.Register.{Register}
use Rattle.vsu.specs.declared.unit.Register.TheVariants.{Wave, Modulation, Channel, Stop, Nothing}
use Rattle.vsu.specs.declared.unit.Vsu.{Vsu}
use Rattle.arranger.proofs.VoiceLaws.{later-stays}
use Rattle.arranger.specs.Arranger.{Exchanged}

-- A write, part by part: what it makes of the voices, and of the samples and the entries where those voices play.

abbrev pub voices_by : Register → ℕ → List Voice → List Voice
voices_by (Wave at) b vs = vs
voices_by (Modulation at) b vs = vs
voices_by (Channel k o) b vs = set vs k (voice_write o b (voice_at k vs))
voices_by Stop b vs = cond (bit 0 b) (map stop_voice vs) vs
voices_by Nothing b vs = vs

abbrev pub waves_by : Register → ℕ → List Voice → List ℕ → List ℕ
waves_by (Wave at) b vs ws = cond (any_plays vs) ws (set ws at (b % 64))
waves_by (Modulation at) b vs ws = ws
waves_by (Channel k o) b vs ws = ws
waves_by Stop b vs ws = ws
waves_by Nothing b vs ws = ws

abbrev pub entries_by : Register → ℕ → List Voice → List ℤ → List ℤ
entries_by (Wave at) b vs ms = ms
entries_by (Modulation at) b vs ms = cond (plays (voice_at 4 vs)) ms (set ms at (signed b))
entries_by (Channel k o) b vs ms = ms
entries_by Stop b vs ms = ms
entries_by Nothing b vs ms = ms

abbrev written_by : Register → ℕ → Vsu → Vsu
written_by r b u =
    record {
      voices = voices_by r b u.voices;
      output = u.output;
      waves = waves_by r b u.voices u.waves;
      modulation = entries_by r b u.voices u.modulation;
      mutes = u.mutes;
    }

pub by_parts : (r : Register) (b : ℕ) (u : Vsu) → write_to r b u ≡ written_by r b u
unfolding write_to
by_parts (Wave at) b u = go (any_plays u.voices)
  where
    go : (p : Bool) → cond p u (record { voices = u.voices; output = u.output; waves = set u.waves at (b % 64); modulation = u.modulation; mutes = u.mutes }) ≡ record { voices = u.voices; output = u.output; waves = cond p u.waves (set u.waves at (b % 64)); modulation = u.modulation; mutes = u.mutes }
    go true = refl
    go false = refl
by_parts (Modulation at) b u = go (plays (voice_at 4 u.voices))
  where
    go : (p : Bool) → cond p u (record { voices = u.voices; output = u.output; waves = u.waves; modulation = set u.modulation at (signed b); mutes = u.mutes }) ≡ record { voices = u.voices; output = u.output; waves = u.waves; modulation = cond p u.modulation (set u.modulation at (signed b)); mutes = u.mutes }
    go true = refl
    go false = refl
by_parts (Channel k o) b u = refl
by_parts Stop b u = go (bit 0 b)
  where
    go : (p : Bool) → cond p (record { voices = map stop_voice u.voices; output = u.output; waves = u.waves; modulation = u.modulation; mutes = u.mutes }) u ≡ record { voices = cond p (map stop_voice u.voices) u.voices; output = u.output; waves = u.waves; modulation = u.modulation; mutes = u.mutes }
    go true = refl
    go false = refl
by_parts Nothing b u = refl

-- one write after another, and what either order of two comes to

pub two-writes : (r : Register) (b : ℕ) (s : Register) (d : ℕ) (u : Vsu) → write_to s d (write_to r b u) ≡ written_by s d (written_by r b u)
two-writes r b s d u = ap (write_to s d) (by_parts r b u) ∙ by_parts s d (written_by r b u)

module _ (r : Register) (b : ℕ) (s : Register) (d : ℕ) (u : Vsu) where
  abbrev pub EitherOrder : Type 0
  EitherOrder = write_to s d (write_to r b u) ≡ write_to r b (write_to s d u)

  pub part-by-part : voices_by s d (voices_by r b u.voices) ≡ voices_by r b (voices_by s d u.voices) → waves_by s d (voices_by r b u.voices) (waves_by r b u.voices u.waves) ≡ waves_by r b (voices_by s d u.voices) (waves_by s d u.voices u.waves) → entries_by s d (voices_by r b u.voices) (entries_by r b u.voices u.modulation) ≡ entries_by r b (voices_by s d u.voices) (entries_by s d u.voices u.modulation) → EitherOrder
  part-by-part v w m =
      two-writes r b s d u ∙ (λ j. record { voices = v j; output = u.output; waves = w j; modulation = m j; mutes = u.mutes }) ∙ sym (two-writes s d r b u)

  -- and what it tells of the parts
  module _ (e : EitherOrder) where
    apart : written_by s d (written_by r b u) ≡ written_by r b (written_by s d u)
    apart = sym (two-writes r b s d u) ∙ e ∙ two-writes s d r b u

    pub voices-agree : voices_by s d (voices_by r b u.voices) ≡ voices_by r b (voices_by s d u.voices)
    voices-agree = ap (λ (t : Vsu). t.voices) apart

    pub waves-agree : waves_by s d (voices_by r b u.voices) (waves_by r b u.voices u.waves) ≡ waves_by r b (voices_by s d u.voices) (waves_by s d u.voices u.waves)
    waves-agree = ap (λ (t : Vsu). t.waves) apart

    pub entries-agree : entries_by s d (voices_by r b u.voices) (entries_by r b u.voices u.modulation) ≡ entries_by r b (voices_by s d u.voices) (entries_by s d u.voices u.modulation)
    entries-agree = ap (λ (t : Vsu). t.modulation) apart

-- two elements of a list

pub sets-swap : {A : Type 0} (l : List A) (i j : ℕ) (x y : A) → (i ≡ j → x ≡ y) → set (set l i x) j y ≡ set (set l j y) i x
sets-swap l i j x y same = go (ℕ_discrete i j)
  where
    go : Dec (i ≡ j) → set (set l i x) j y ≡ set (set l j y) i x
    go (yes e) = rw (← e) (set-set l i x y ∙ ap (set l i) (sym (same e)) ∙ sym (set-set l i y x))
    go (no n) = set_comm l i j x y n

-- the same where they are dropped or not
pub dropped-swap : {A : Type 0} (p : Bool) (l : List A) (i j : ℕ) (x y : A) → (i ≡ j → x ≡ y) → cond p (cond p l (set l i x)) (set (cond p l (set l i x)) j y) ≡ cond p (cond p l (set l j y)) (set (cond p l (set l j y)) i x)
dropped-swap true l i j x y same = refl
dropped-swap false l i j x y same = sets-swap l i j x y same

-- one voice after the other, or twice the same

module _ (vs : List Voice) where
  -- voice k with f made of it
  abbrev made : ℕ → (Voice → Voice) → List Voice
  made k f = set vs k (f (voice_at k vs))

  pub voice-twice : (k : ℕ) (f g : Voice → Voice) → set (made k f) k (g (voice_at k (made k f))) ≡ set vs k (g (f (voice_at k vs)))
  voice-twice k f g = set-set vs k _ _ ∙ go (ltb k (length vs)) refl
    where
      go : (t : Bool) → ltb k (length vs) ≡ t → set vs k (g (voice_at k (made k f))) ≡ set vs k (g (f (voice_at k vs)))
      go true e = ap (λ (v : Voice). set vs k (g v)) (get_or-set_same vs k _ off_wave (ltb-true k (length vs) e))
      go false e = let h : length vs ≤ k = ltb-false k (length vs) e in set_out vs k _ h ∙ sym (set_out vs k _ h)

  pub voices-swap : (k j : ℕ) (f g : Voice → Voice) → (k ≡ j → g (f (voice_at k vs)) ≡ f (g (voice_at k vs))) → set (made k f) j (g (voice_at j (made k f))) ≡ set (made j g) k (f (voice_at k (made j g)))
  voices-swap k j f g same = go (ℕ_discrete k j)
    where
      go : Dec (k ≡ j) → set (made k f) j (g (voice_at j (made k f))) ≡ set (made j g) k (f (voice_at k (made j g)))
      go (yes e) = rw (← e) (voice-twice k f g ∙ ap (set vs k) (same e) ∙ sym (voice-twice k g f))
      go (no n) =
          ap (λ (v : Voice). set (made k f) j (g v)) (get_or-set_other vs k j _ off_wave (λ e. n (sym e)))
          ∙ set_comm vs k j _ _ n
          ∙ sym (ap (λ (v : Voice). set (made j g) k (f v)) (get_or-set_other vs j k _ off_wave n))

-- all voices stopped

pub stopped-set : (vs : List Voice) (k : ℕ) (v : Voice) → map stop_voice (set vs k v) ≡ set (map stop_voice vs) k (stop_voice v)
stopped-set [] k v = refl
stopped-set (w ∷ vs) zero v = refl
stopped-set (w ∷ vs) (suc k) v = ap (λ (l : List Voice). stop_voice w ∷ l) (stopped-set vs k v)

pub stopped-at : (vs : List Voice) (k : ℕ) → voice_at k (map stop_voice vs) ≡ stop_voice (voice_at k vs)
stopped-at [] k = refl
stopped-at (w ∷ vs) zero = refl
stopped-at (w ∷ vs) (suc k) = stopped-at vs k

pub stopped-plays : (vs : List Voice) → any_plays (map stop_voice vs) ≡ false
unfolding any_plays
stopped-plays [] = refl
stopped-plays (v ∷ vs) = stopped-plays vs

-- whether any plays, after one was written to

pub plays-set : (vs : List Voice) (k : ℕ) (v : Voice) → plays v ≡ plays (voice_at k vs) → any_plays (set vs k v) ≡ any_plays vs
unfolding any_plays
plays-set [] k v e = refl
plays-set (w ∷ vs) zero v e = rw e
plays-set (w ∷ vs) (suc k) v e = ap (λ (t : Bool). plays w || t) (plays-set vs k v e)

pub plays-at : (vs : List Voice) (k j : ℕ) (v : Voice) → plays v ≡ plays (voice_at k vs) → plays (voice_at j (set vs k v)) ≡ plays (voice_at j vs)
plays-at [] k j v e = refl
plays-at (w ∷ vs) zero zero v e = e
plays-at (w ∷ vs) zero (suc j) v e = refl
plays-at (w ∷ vs) (suc k) zero v e = refl
plays-at (w ∷ vs) (suc k) (suc j) v e = plays-at vs k j v e

pub plays-there : (vs : List Voice) (k : ℕ) (v : Voice) → k < length vs → plays v ≡ true → any_plays (set vs k v) ≡ true
unfolding any_plays
plays-there [] k v h e = absurd (omega (arith, h))
plays-there (w ∷ vs) zero v h e = rw e
plays-there (w ∷ vs) (suc k) v h e = rw (plays-there vs k v (omega (arith, h)) e, or-true)

-- Document 02's two laws, for every state.

-- "two writes to registers of different channels (0x400 to 0x57F) give one state in either order"
abbrev in_channels : ℕ → Type 0
in_channels a = (0x400 ≤ a) × (a ≤ 0x57F)

abbrev pub channel_of : ℕ → ℕ
channel_of a = (a - 0x400) / 0x40

is-channel : (a : ℕ) → in_channels a → Channel (channel_of a) (a % 0x20) ≡ decode_of a
is-channel a h = decode-channel a (omega (arith, h.0)) (omega (arith, h.0)) h.0 (omega (arith, h.1))

pub channels-apart : (a b c d : ℕ) → in_channels a → in_channels c → channel_of a ≢ channel_of c → (u : Vsu) → Exchanged a b c d u
channels-apart a b c d h g n u =
    rw (← is-channel a h, ← is-channel c g)
    (part-by-part (Channel (channel_of a) (a % 0x20)) b (Channel (channel_of c) (c % 0x20)) d u
    (voices-swap u.voices (channel_of a) (channel_of c) (voice_write (a % 0x20) b) (voice_write (c % 0x20) d) (λ e. absurd (n e)))
    refl
    refl)

-- "the same write made twice with no cycle between equals one", at every address

dropped-twice : {A : Type 0} (p : Bool) (l : List A) (i : ℕ) (x : A) → cond p (cond p l (set l i x)) (set (cond p l (set l i x)) i x) ≡ cond p l (set l i x)
dropped-twice true l i x = refl
dropped-twice false l i x = set-set l i x x

twice-to : (r : Register) (b : ℕ) → b < 256 → (u : Vsu) → write_to r b (write_to r b u) ≡ write_to r b u
twice-to r b h u = two-writes r b r b u ∙ go r ∙ sym (by_parts r b u)
  where
    go : (r : Register) → written_by r b (written_by r b u) ≡ written_by r b u
    go (Wave at) = ap (with_waves u) (dropped-twice (any_plays u.voices) u.waves at (b % 64))
    go (Modulation at) = ap (with_modulation u) (dropped-twice (plays (voice_at 4 u.voices)) u.modulation at (signed b))
    go (Channel k o) =
        ap (with_voices u)
        (voice-twice u.voices k (voice_write o b) (voice_write o b) ∙ ap (set u.voices k) (later-stays b b h o (voice_at k u.voices)))
    go Stop = ap (with_voices u) (stop (bit 0 b))
      where
        stop : (p : Bool) → cond p (map stop_voice (cond p (map stop_voice u.voices) u.voices)) (cond p (map stop_voice u.voices) u.voices) ≡ cond p (map stop_voice u.voices) u.voices
        stop true = map-map stop_voice stop_voice u.voices
        stop false = refl
    go Nothing = refl

pub twice : (a b : ℕ) → b < 256 → (u : Vsu) → write a b (write a b u) ≡ write a b u
twice a b h u = twice-to (decode_of a) b h u

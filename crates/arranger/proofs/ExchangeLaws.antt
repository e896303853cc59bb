-- Where the table says yes, either order gives one state; every state in range has its channels of their kinds.
use Rattle.std.specs.Prelude.{◌≡◌, ℕ, ◌%◌, ◌<◌, ◌≤◌, Bool, true, false, cond, not, ◌&&◌, ◌||◌, eqb, ltb, leb, List, [], ◌∷◌, map, set}
use mathlib.Core.Path.{refl, sym, ap, ◌∙◌}
use mathlib.Core.Bool.{and-eq-true_iff, and-true, true≢false}
use native.Mathlib.Decide.{ℕ_discrete}
use native.Mathlib.Omega.{arith}
use borrow.Author.Tests.{eq-eqb, eqb-false, eqb-true, leb-true}
use borrow.Enum.Match.{each_below}
use lib.Seq.{get_or-set_other}
use Rattle.common.specs.Bits.{bit, signed}
use Rattle.common.specs.Channel.{channel_in_range}
use Rattle.laws.proofs.Cases.{both, each, ways}
use Rattle.six.specs.Core.{any_plays, off_wave, plays, voice_at}
use Rattle.voice.specs.ChannelEnum.{noise_in_range, noise_kind_in_range, stop_voice, swept_in_range, swept_kind_in_range, voice_write, wave_in_range, wave_kind_in_range}
use Rattle.voice.specs.declared.channel_enum.Kind.{Kind}
use Rattle.voice.specs.declared.channel_enum.Kind.TheVariants as Kinds
use Rattle.voice.specs.declared.channel_enum.Voice.{Voice}
use Rattle.vsu.proofs.CoreLaws.{unit-refused, write-gives}
use Rattle.vsu.proofs.RangeLaws.{Six, range-facts, write_keeps}
use Rattle.vsu.specs.Core.{between, decode_of, in_range, with_voices, write, write_of, write_to, written_by, Written}
use Rattle.vsu.specs.declared.unit.Register.{Register}
use Rattle.vsu.specs.declared.unit.Register.TheVariants.{Wave, Modulation, Channel, Stop, Nothing}
use Rattle.vsu.specs.declared.unit.Vsu.{Vsu}
use Rattle.arranger.proofs.VoiceLaws.{kept-writes, later-stays, offsets-apart, plays-stays, stop-apart}
use Rattle.arranger.proofs.WriteLaws.{EitherOrder, dropped-swap, part-by-part, plays-at, plays-set, stopped-at, stopped-set, voices-swap}
use Rattle.arranger.specs.Arranger.{Exchanged, OfKinds, may_exchange, is_kind, beside, beside_channel, beside_modulation, beside_stop, beside_wave, kept}

-- what a test that says yes tells

was-not : (t : Bool) → not t ≡ true → t ≡ false
was-not true h = absurd (true≢false (sym h))
was-not false h = refl

-- of one place, the bytes are alike
if-one : (p q : Bool) → (not p || q) ≡ true → p ≡ true → q ≡ true
if-one true q h e = h
if-one false q h e = absurd (true≢false (sym e))

-- the decoded registers
abbrev pub Fits : Register → Type 0
Fits (Wave at) = at < 160
Fits (Modulation at) = at < 32
Fits (Channel k o) = k < 6
Fits Stop = Unit
Fits Nothing = Unit

-- Two writes to one voice.

module _ (k : ℕ) {b d : ℕ} (h : b < 256) (g : d < 256) where
  one-register : (o : ℕ) (v : Voice) → is_kind k v.kind ≡ true → kept k o b ≡ kept k o d → voice_write o d (voice_write o b v) ≡ voice_write o b (voice_write o d v)
  one-register o v i e =
      later-stays d b h o v
      ∙ sym (kept-writes k g o v i)
      ∙ ap (λ (x : ℕ). voice_write o x v) (sym e)
      ∙ kept-writes k h o v i
      ∙ sym (later-stays b d g o v)

  one-voice : (o p : ℕ) (v : Voice) → is_kind k v.kind ≡ true → (o ≡ p → kept k o b ≡ kept k o d) → voice_write p d (voice_write o b v) ≡ voice_write o b (voice_write p d v)
  one-voice o p v i same = go (ℕ_discrete o p)
    where
      go : Dec (o ≡ p) → voice_write p d (voice_write o b v) ≡ voice_write o b (voice_write p d v)
      go (yes e) = rw (← e) (one-register o v i (same e))
      go (no n) = sym (offsets-apart h g n v)

-- A write to a voice beside one to all.

voice-and-stop : (o b : ℕ) → (eqb o 0x00 && bit 7 b) ≡ false → (vs : List Voice) (k : ℕ) → map stop_voice (set vs k (voice_write o b (voice_at k vs))) ≡ set (map stop_voice vs) k (voice_write o b (voice_at k (map stop_voice vs)))
voice-and-stop o b e vs k =
    stopped-set vs k _ ∙ ap (set (map stop_voice vs) k) (stop-apart o b (voice_at k vs) e ∙ ap (voice_write o b) (sym (stopped-at vs k)))

-- What a write to a voice leaves of whether it plays, and so of what is held off.

module _ (k o b : ℕ) (vs : List Voice) where
  abbrev written : List Voice
  written = set vs k (voice_write o b (voice_at k vs))

  any-stays : eqb o 0x00 ≡ false → any_plays written ≡ any_plays vs
  any-stays e = plays-set vs k _ (plays-stays o b (voice_at k vs) e)

  fifth-stays : (eqb k 4 && eqb o 0x00) ≡ false → plays (voice_at 4 written) ≡ plays (voice_at 4 vs)
  fifth-stays e = go (eqb k 4) refl e
    where
      go : (t : Bool) → eqb k 4 ≡ t → (t && eqb o 0x00) ≡ false → plays (voice_at 4 written) ≡ plays (voice_at 4 vs)
      go true f e = plays-at vs k 4 _ (plays-stays o b (voice_at k vs) e)
      go false f e = ap plays (get_or-set_other vs k 4 _ off_wave (λ h. eqb-false k 4 f (sym h)))

-- Yes: either order gives one state, by the registers of both.

module _ {b d : ℕ} (h : b < 256) (g : d < 256) (u : Vsu) where
  abbrev vs : List Voice
  vs = u.voices

  wave-wave : (at to : ℕ) → beside_wave at b (Wave to) d ≡ true → EitherOrder (Wave at) b (Wave to) d u
  unfolding beside_wave
  wave-wave at to y =
      part-by-part (Wave at) b (Wave to) d u refl
      (dropped-swap (any_plays vs) u.waves at to (b % 64) (d % 64) (λ e. eqb-true (b % 64) (d % 64) (if-one (eqb at to) _ y (eq-eqb at to e))))
      refl

  modulation-modulation : (at to : ℕ) → beside_modulation at b (Modulation to) d ≡ true → EitherOrder (Modulation at) b (Modulation to) d u
  unfolding beside_modulation
  modulation-modulation at to y =
      part-by-part (Modulation at) b (Modulation to) d u refl refl
      (dropped-swap (plays (voice_at 4 vs)) u.modulation at to (signed b) (signed d) (λ e. ap signed (eqb-true b d (if-one (eqb at to) _ y (eq-eqb at to e)))))

  wave-modulation : (at to : ℕ) → EitherOrder (Wave at) b (Modulation to) d u
  wave-modulation at to = part-by-part (Wave at) b (Modulation to) d u refl refl refl

  wave-channel : (at k o : ℕ) → beside_wave at b (Channel k o) d ≡ true → EitherOrder (Wave at) b (Channel k o) d u
  unfolding beside_wave
  wave-channel at k o y =
      part-by-part (Wave at) b (Channel k o) d u refl
      (ap (λ (p : Bool). cond p u.waves (set u.waves at (b % 64))) (sym (any-stays k o d vs (was-not (eqb o 0x00) y))))
      refl

  modulation-channel : (at k o : ℕ) → beside_modulation at b (Channel k o) d ≡ true → EitherOrder (Modulation at) b (Channel k o) d u
  unfolding beside_modulation
  modulation-channel at k o y =
      part-by-part (Modulation at) b (Channel k o) d u refl refl
      (ap (λ (p : Bool). cond p u.modulation (set u.modulation at (signed b))) (sym (fifth-stays k o d vs (was-not (eqb k 4 && eqb o 0x00) y))))

  -- a stop that stops nothing
  stop-idle : bit 0 d ≡ false → (r : Register) → EitherOrder r b Stop d u
  unfolding write_to
  stop-idle e r = rw e

  channel-channel : OfKinds u → (k o j p : ℕ) → k < 6 → beside_channel k o b (Channel j p) d ≡ true → EitherOrder (Channel k o) b (Channel j p) d u
  unfolding beside_channel
  channel-channel i k o j p l y =
      part-by-part (Channel k o) b (Channel j p) d u
      (voices-swap vs k j (voice_write o b) (voice_write p d) (λ e. one-voice k h g o p (voice_at k vs) (i.kinds k l) (λ f. eqb-true _ _ (if-one (eqb k j && eqb o p) _ y (both (eq-eqb k j e) (eq-eqb o p f))))))
      refl
      refl

  channel-stop : (k o : ℕ) → beside_channel k o b Stop d ≡ true → EitherOrder (Channel k o) b Stop d u
  unfolding beside_channel
  channel-stop k o y = go (bit 0 d) refl (was-not (eqb o 0x00 && bit 7 b && bit 0 d) y)
    where
      go : (t : Bool) → bit 0 d ≡ t → (eqb o 0x00 && bit 7 b && t) ≡ false → EitherOrder (Channel k o) b Stop d u
      go true e n = part-by-part (Channel k o) b Stop d u (rw e (voice-and-stop o b (sym (and-true _) ∙ n) vs k)) refl refl
      go false e n = stop-idle e (Channel k o)

  nothing-idle : (r : Register) → EitherOrder r b Nothing d u
  unfolding write_to
  nothing-idle r = refl

  stop-stop : EitherOrder Stop b Stop d u
  unfolding write_to
  stop-stop = go (bit 0 b) (bit 0 d)
    where
      go : (s t : Bool) → cond t (with_voices (cond s (with_voices u (map stop_voice vs)) u) (map stop_voice (cond s (with_voices u (map stop_voice vs)) u).voices)) (cond s (with_voices u (map stop_voice vs)) u) ≡ cond s (with_voices (cond t (with_voices u (map stop_voice vs)) u) (map stop_voice (cond t (with_voices u (map stop_voice vs)) u).voices)) (cond t (with_voices u (map stop_voice vs)) u)
      go true true = refl
      go true false = refl
      go false true = refl
      go false false = refl

module _ {b d : ℕ} (h : b < 256) (g : d < 256) (u : Vsu) (i : OfKinds u) where
  either_order : (r s : Register) → Fits r → Fits s → beside r b s d ≡ true → EitherOrder r b s d u
  unfolding beside beside_wave beside_modulation beside_channel beside_stop
  either_order (Wave at) (Wave to) l m y = wave-wave h g u at to y
  either_order (Wave at) (Modulation to) l m y = wave-modulation h g u at to
  either_order (Wave at) (Channel k o) l m y = wave-channel h g u at k o y
  either_order (Wave at) Stop l m y = stop-idle h g u (was-not (bit 0 d) y) (Wave at)
  either_order (Wave at) Nothing l m y = nothing-idle h g u (Wave at)
  either_order (Modulation at) (Wave to) l m y = sym (wave-modulation g h u to at)
  either_order (Modulation at) (Modulation to) l m y = modulation-modulation h g u at to y
  either_order (Modulation at) (Channel k o) l m y = modulation-channel h g u at k o y
  either_order (Modulation at) Stop l m y = stop-idle h g u (was-not (bit 0 d) y) (Modulation at)
  either_order (Modulation at) Nothing l m y = nothing-idle h g u (Modulation at)
  either_order (Channel k o) (Wave to) l m y = sym (wave-channel g h u to k o y)
  either_order (Channel k o) (Modulation to) l m y = sym (modulation-channel g h u to k o y)
  either_order (Channel k o) (Channel j p) l m y = channel-channel h g u i k o j p l y
  either_order (Channel k o) Stop l m y = channel-stop h g u k o y
  either_order (Channel k o) Nothing l m y = nothing-idle h g u (Channel k o)
  either_order Stop (Wave to) l m y = sym (stop-idle g h u (was-not (bit 0 b) y) (Wave to))
  either_order Stop (Modulation to) l m y = sym (stop-idle g h u (was-not (bit 0 b) y) (Modulation to))
  either_order Stop (Channel k o) l m y = sym (channel-stop g h u k o y)
  either_order Stop Stop l m y = stop-stop h g u
  either_order Stop Nothing l m y = nothing-idle h g u Stop
  either_order Nothing s l m y = sym (nothing-idle g h u s)

-- What an address decodes to fits the unit.

pub at_most : (low high a : ℕ) → between low high a ≡ true → a ≤ high
at_most low high a e = each (leb low a) (leb a high ∷ []) e (λ k. leb-true a high k.1.0)

pub decode-fits : (a : ℕ) → Fits (decode_of a)
unfolding decode_of
decode-fits a =
    ways Fits (between 0x000 0x27F a) (λ e. omega (arith, at_most 0x000 0x27F a e))
    (λ _. ways Fits (between 0x280 0x2FF a) (λ e. omega (arith, at_most 0x280 0x2FF a e))
    (λ _. ways Fits (between 0x400 0x57F a) (λ e. omega (arith, at_most 0x400 0x57F a e))
    (λ _. ways Fits (eqb a 0x580) (λ _. tt) (λ _. tt))))

-- In every state in range the channels are of their kinds.

second : (s t : Bool) → (s && t) ≡ true → t ≡ true
second s t e = ((and-eq-true_iff s t).0 e).1

wave-kind : (x : Kind) → wave_kind_in_range x ≡ true → (k : ℕ) → ltb k 4 ≡ true → is_kind k x ≡ true
unfolding wave_kind_in_range
wave-kind (Kinds.Wave bank position) r k l = l
wave-kind (Kinds.Swept bank position sweep) r k l = absurd (true≢false (sym r))
wave-kind (Kinds.Noise shift tap output) r k l = absurd (true≢false (sym r))

swept-kind : (x : Kind) → swept_kind_in_range x ≡ true → is_kind 4 x ≡ true
unfolding swept_kind_in_range
swept-kind (Kinds.Wave bank position) r = absurd (true≢false (sym r))
swept-kind (Kinds.Swept bank position sweep) r = refl
swept-kind (Kinds.Noise shift tap output) r = absurd (true≢false (sym r))

noise-kind : (x : Kind) → noise_kind_in_range x ≡ true → is_kind 5 x ≡ true
unfolding noise_kind_in_range
noise-kind (Kinds.Wave bank position) r = absurd (true≢false (sym r))
noise-kind (Kinds.Swept bank position sweep) r = absurd (true≢false (sym r))
noise-kind (Kinds.Noise shift tap output) r = refl

pub in-range-kinds : (u : Vsu) → in_range u ≡ true → OfKinds u
unfolding wave_in_range swept_in_range noise_in_range
in-range-kinds u r =
    let six : Six u.voices = (range-facts u r).voices in
    let v : ℕ → Voice = λ k. voice_at k u.voices in
    record {
      kinds =
          each_below 6 (λ k. is_kind k (v k).kind ≡ true) (
            noise-kind (v 5).kind (second (channel_in_range 39 (v 5).channel) _ six.sixth),
            (
              swept-kind (v 4).kind (second (channel_in_range 3 (v 4).channel) _ six.fifth),
              (
                wave-kind (v 3).kind (second (channel_in_range 3 (v 3).channel) _ six.fourth) 3 refl,
                (
                  wave-kind (v 2).kind (second (channel_in_range 3 (v 2).channel) _ six.third) 2 refl,
                  (
                    wave-kind (v 1).kind (second (channel_in_range 3 (v 1).channel) _ six.second) 1 refl,
                    (wave-kind (v 0).kind (second (channel_in_range 3 (v 0).channel) _ six.first) 0 refl, tt),
                  ),
                ),
              ),
            ),
          );
    }

-- Where the table says yes, either order of the two writes gives one state: for every state whose channels are of their kinds.
pub may-exchange : (a b c d : ℕ) → b < 256 → d < 256 → may_exchange a b c d ≡ true → (u : Vsu) → OfKinds u → Exchanged a b c d u
may-exchange a b c d h g y u i = either_order h g u i (decode_of a) (decode_of c) (decode-fits a) (decode-fits c) y

-- By the call, whatever the state: out of range it is handed back as it is.
pub calls-exchange : (a b c d : ℕ) → b < 256 → d < 256 → may_exchange a b c d ≡ true → (u : Vsu) → (write_of c d (write_of a b u).state).state ≡ (write_of a b (write_of c d u).state).state
unfolding written_by
calls-exchange a b c d h g y u = go (in_range u) refl
  where
    told : (v : Vsu) → in_range v ≡ true → (e f : ℕ) → (write_of e f v).state ≡ write e f v
    told v r e f = ap (λ (w : Written). w.state) (write-gives v r e f)

    back : (v : Vsu) → in_range v ≡ false → (e f : ℕ) → (write_of e f v).state ≡ v
    back v r e f = rw (unit-refused v refl r)

    go : (t : Bool) → in_range u ≡ t → (write_of c d (write_of a b u).state).state ≡ (write_of a b (write_of c d u).state).state
    go true r =
        ap (λ (v : Vsu). (write_of c d v).state) (told u r a b)
        ∙ told (write a b u) (write_keeps u a b h r) c d
        ∙ may-exchange a b c d h g y u (in-range-kinds u r)
        ∙ sym (ap (λ (v : Vsu). (write_of a b v).state) (told u r c d) ∙ told (write c d u) (write_keeps u c d g r) a b)
    go false r =
        ap (λ (v : Vsu). (write_of c d v).state) (back u r a b)
        ∙ back u r c d
        ∙ sym (ap (λ (v : Vsu). (write_of a b v).state) (back u r c d) ∙ back u r a b)

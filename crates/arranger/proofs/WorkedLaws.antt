-- Where the table says no, the worked state is in range, and the two orders of the writes differ on it.
use Rattle.std.specs.Prelude.{◌≡◌, ℕ, zero, suc, ◌-◌, ◌%◌, ◌<◌, ◌≤◌, Bool, true, false, cond, not, ◌&&◌, ◌||◌, eqb, List, [], ◌∷◌, map, length, get_or, set, ℤ, pos, negsuc}
use mathlib.Core.Path.{refl, sym, ap, ap₂, subst, ◌∙◌}
use mathlib.Core.Bool.{true≢false}
use native.Mathlib.Omega.{arith}
use borrow.Author.Tests.{eq-eqb, eqb-false, eqb-true, ne_eqb}
use lib.ListN.{length-map, length-set}
use lib.Seq.{get_or-set_same}
use Rattle.common.specs.Bits.{bit, signed}
use Rattle.common.specs.Channel.{channel_write, write_interval}
use Rattle.laws.proofs.Cases.{each, neither, ways}
use Rattle.six.specs.Core.{any_plays, off_voices, off_wave, plays, voice_at}
use Rattle.table.proofs.TableLaws as table
use Rattle.table.proofs.TableLaws.{below}
use Rattle.voice.specs.ChannelEnum.{stop_voice, voice_write}
use Rattle.voice.specs.declared.channel_enum.Voice.{Voice}
use Rattle.vsu.proofs.RangeLaws.{power-on-in-range, range-facts, write_keeps}
use Rattle.vsu.specs.Core.{between, decode_of, in_range, power_on, with_modulation, with_voices, with_waves, write, write_to}
use Rattle.vsu.specs.declared.unit.Register.{Register}
use Rattle.vsu.specs.declared.unit.Register.TheVariants.{Wave, Modulation, Channel, Stop, Nothing}
use Rattle.vsu.specs.declared.unit.Vsu.{Vsu}
use Rattle.arranger.proofs.VoiceLaws.{later-stays, on-bytes, plays-written, read, reads-back}
use Rattle.arranger.proofs.WriteLaws.{EitherOrder, entries-agree, plays-set, plays-there, stopped-plays, voice-twice, voices-agree, voices_by, waves-agree}
use Rattle.arranger.proofs.ExchangeLaws.{Fits, at_most, decode-fits, in-range-kinds, may-exchange}
use Rattle.arranger.specs.Arranger.{Exchanged, beside, beside_channel, beside_modulation, beside_stop, beside_wave, dropped, kept, lead_of, lead_to, led, may_exchange, worked}
use Rattle.arranger.specs.declared.Lead.{Lead}
use Rattle.arranger.specs.declared.Lead.TheVariants.{PowerOn, Filled, Playing}

-- The worked states are in range.

led-in-range : (a b c d : ℕ) → in_range (led (lead_to a b c d)) ≡ true
unfolding led lead_to
led-in-range a b c d =
    let r : in_range (write a (255 - b) power_on) ≡ true = write_keeps power_on a (255 - b) (omega arith) power-on-in-range in
    ways (λ (l : Lead). in_range (led l) ≡ true) (eqb c 0x580) (λ _. write_keeps _ 0x500 0x80 (omega arith) r)
    (λ _. ways (λ (l : Lead). in_range (led l) ≡ true) (bit 7 d) (λ _. r) (λ _. write_keeps _ c 0x80 (omega arith) r))

pub worked-in-range : (a b c d : ℕ) → in_range (worked a b c d) ≡ true
unfolding lead_of led
worked-in-range a b c d =
    ways (λ (l : Lead). in_range (led l) ≡ true) (dropped (decode_of a))
    (λ _. ways (λ (l : Lead). in_range (led l) ≡ true) (dropped (decode_of c)) (λ _. power-on-in-range) (λ _. led-in-range a b c d))
    (λ _. ways (λ (l : Lead). in_range (led l) ≡ true) (dropped (decode_of c)) (λ _. led-in-range c d a b) (λ _. power-on-in-range))

-- A byte that is dropped in one order and not in the other, where another one stands.

shows : {A : Type 0} (l : List A) (at : ℕ) (x none : A) → at < length l → (get_or l at none ≡ x → ⊥) → (p q : Bool) → not p ≡ q → cond p l (set l at x) ≡ cond q l (set l at x) → ⊥
shows l at x none h n true true f e = true≢false (sym f)
shows l at x none h n true false f e = n (ap (λ m. get_or m at none) e ∙ get_or-set_same l at x none h)
shows l at x none h n false true f e = n (sym (ap (λ m. get_or m at none) e) ∙ get_or-set_same l at x none h)
shows l at x none h n false false f e = true≢false f

-- another byte is another sample, and another entry

other-sample : {b : ℕ} → b < 256 → (255 - b) % 64 ≡ b % 64 → ⊥
other-sample {b} h e =
    true≢false
    (sym (table.at (λ x. not (eqb ((255 - x) % 64) (x % 64))) 256 b refl h) ∙ ap not (eq-eqb ((255 - b) % 64) (b % 64) e))

abbrev unsigned : ℤ → ℕ
unsigned (pos n) = n
unsigned (negsuc n) = 255 - n

signed_back : {b : ℕ} → b < 256 → unsigned (signed b) ≡ b
unfolding signed
signed_back h = on-bytes (λ x. unsigned (signed x)) (λ x. x) refl h

other-entry : {b : ℕ} → b < 256 → signed (255 - b) ≡ signed b → ⊥
other-entry {b} h e =
    let f : 255 - b ≡ b = sym (signed_back (omega arith)) ∙ ap unsigned e ∙ signed_back h in
    absurd (omega (arith, f, h))

-- The voices of power-on, and those with one started.

abbrev quiet : List Voice
quiet = power_on.voices

abbrev started : ℕ → List Voice
started k = set quiet k (voice_write 0x00 0x80 (voice_at k quiet))

none-plays : any_plays quiet ≡ false
unfolding any_plays power_on
none-plays = refl

six-voices : length quiet ≡ 6
unfolding power_on
six-voices = refl

not-one : (vs : List Voice) (k : ℕ) → any_plays vs ≡ false → plays (voice_at k vs) ≡ false
unfolding any_plays
not-one [] k e = refl
not-one (v ∷ vs) zero e = (neither (plays v) (any_plays vs) e).0
not-one (v ∷ vs) (suc k) e = not-one vs k (neither (plays v) (any_plays vs) e).1

-- the write turns what "any channel plays" says

module _ (k : ℕ) (m : k < 6) where
  started-plays : any_plays (started k) ≡ true
  started-plays = plays-there quiet k _ (rw six-voices m) (plays-written 0x80 (voice_at k quiet))

  module _ (d : ℕ) where
    start-turns : bit 7 d ≡ true → not (any_plays quiet) ≡ any_plays (voices_by (Channel k 0x00) d quiet)
    start-turns e = rw none-plays (sym (plays-there quiet k _ (rw six-voices m) (plays-written d (voice_at k quiet) ∙ e)))

    stop-turns : bit 7 d ≡ false → not (any_plays (started k)) ≡ any_plays (voices_by (Channel k 0x00) d (started k))
    stop-turns e =
        ap not started-plays
        ∙ sym none-plays
        ∙ sym (plays-set quiet k _ (plays-written d _ ∙ e ∙ sym (not-one quiet k none-plays)))
        ∙ sym (ap any_plays (voice-twice quiet k (voice_write 0x00 0x80) (voice_write 0x00 d)))

    all-turn : bit 0 d ≡ true → not (any_plays (started k)) ≡ any_plays (voices_by Stop d (started k))
    all-turn e = rw (e, started-plays) (sym (stopped-plays (started k)))

-- and what "channel 5 plays" says

module _ (d : ℕ) where
  start-fifth : bit 7 d ≡ true → not (plays (voice_at 4 quiet)) ≡ plays (voice_at 4 (voices_by (Channel 4 0x00) d quiet))
  unfolding power_on voice_write channel_write write_interval
  start-fifth e = sym e

  stop-fifth : bit 7 d ≡ false → not (plays (voice_at 4 (started 4))) ≡ plays (voice_at 4 (voices_by (Channel 4 0x00) d (started 4)))
  unfolding power_on voice_write channel_write write_interval
  stop-fifth e = sym e

  all-fifth : bit 0 d ≡ true → not (plays (voice_at 4 (started 4))) ≡ plays (voice_at 4 (voices_by Stop d (started 4)))
  unfolding power_on voice_write channel_write write_interval
  all-fifth e = rw e

-- A sample beside what turns it.

module _ (at : ℕ) (l : at < 160) {b : ℕ} (h : b < 256) where
  abbrev sampled : Vsu
  sampled = with_waves power_on (set power_on.waves at ((255 - b) % 64))

  sample-filled : write_to (Wave at) (255 - b) power_on ≡ sampled
  unfolding write_to
  sample-filled = rw none-plays

  sample-there : at < length power_on.waves
  sample-there = rw (range-facts power_on power-on-in-range).waves l

  sample-shows : (p q : Bool) → not p ≡ q → cond p sampled.waves (set sampled.waves at (b % 64)) ≡ cond q sampled.waves (set sampled.waves at (b % 64)) → ⊥
  sample-shows =
      shows sampled.waves at (b % 64) 0 (rw length-set sample-there)
      (λ e. other-sample h (sym (get_or-set_same power_on.waves at _ 0 sample-there) ∙ e))

  sample-channel : (k : ℕ) → k < 6 → (d : ℕ) (t : Bool) → bit 7 d ≡ t → EitherOrder (Wave at) b (Channel k 0x00) d (cond t sampled (with_voices sampled (started k))) → ⊥
  sample-channel k m d true e x =
      sample-shows (any_plays quiet) _ (start-turns k m d e) (waves-agree (Wave at) b (Channel k 0x00) d sampled x)
  sample-channel k m d false e x =
      sample-shows (any_plays (started k)) _ (stop-turns k m d e) (waves-agree (Wave at) b (Channel k 0x00) d (with_voices sampled (started k)) x)

  sample-stop : (d : ℕ) → bit 0 d ≡ true → EitherOrder (Wave at) b Stop d (with_voices sampled (started 4)) → ⊥
  sample-stop d e x =
      sample-shows (any_plays (started 4)) _ (all-turn 4 (omega arith) d e) (waves-agree (Wave at) b Stop d (with_voices sampled (started 4)) x)

-- An entry beside what turns it.

module _ (at : ℕ) (l : at < 32) {b : ℕ} (h : b < 256) where
  abbrev entered : Vsu
  entered = with_modulation power_on (set power_on.modulation at (signed (255 - b)))

  entry-filled : write_to (Modulation at) (255 - b) power_on ≡ entered
  unfolding write_to
  entry-filled = rw (not-one quiet 4 none-plays)

  entry-there : at < length power_on.modulation
  entry-there = rw (range-facts power_on power-on-in-range).entries l

  entry-shows : (p q : Bool) → not p ≡ q → cond p entered.modulation (set entered.modulation at (signed b)) ≡ cond q entered.modulation (set entered.modulation at (signed b)) → ⊥
  entry-shows =
      shows entered.modulation at (signed b) (pos 0) (rw length-set entry-there)
      (λ e. other-entry h (sym (get_or-set_same power_on.modulation at _ (pos 0) entry-there) ∙ e))

  entry-channel : (d : ℕ) (t : Bool) → bit 7 d ≡ t → EitherOrder (Modulation at) b (Channel 4 0x00) d (cond t entered (with_voices entered (started 4))) → ⊥
  entry-channel d true e x =
      entry-shows (plays (voice_at 4 quiet)) _ (start-fifth d e) (entries-agree (Modulation at) b (Channel 4 0x00) d entered x)
  entry-channel d false e x =
      entry-shows (plays (voice_at 4 (started 4))) _ (stop-fifth d e) (entries-agree (Modulation at) b (Channel 4 0x00) d (with_voices entered (started 4)) x)

  entry-stop : (d : ℕ) → bit 0 d ≡ true → EitherOrder (Modulation at) b Stop d (with_voices entered (started 4)) → ⊥
  entry-stop d e x =
      entry-shows (plays (voice_at 4 (started 4))) _ (all-fifth d e) (entries-agree (Modulation at) b Stop d (with_voices entered (started 4)) x)

-- The lead, where one of the two may be dropped and the other is a channel's register or the stop register.

abbrev is_stop : Register → Bool
is_stop (Wave at) = false
is_stop (Modulation at) = false
is_stop (Channel k o) = false
is_stop Stop = true
is_stop Nothing = false

stop-alone : (c : ℕ) → is_stop (decode_of c) ≡ eqb c 0x580
unfolding decode_of
stop-alone c =
    ways Alone (between 0x000 0x27F c) (λ e. lower (at_most 0x000 0x27F c e) (omega arith))
    (λ _. ways Alone (between 0x280 0x2FF c) (λ e. lower (at_most 0x280 0x2FF c e) (omega arith))
    (λ _. ways Alone (between 0x400 0x57F c) (λ e. lower (at_most 0x400 0x57F c e) (omega arith))
    (λ _. ways Alone (eqb c 0x580) (λ e. sym e) (λ e. sym e))))
  where
    Alone : Register → Type 0
    Alone r = is_stop r ≡ eqb c 0x580

    lower : {high : ℕ} → c ≤ high → high < 0x580 → false ≡ eqb c 0x580
    lower g k = sym (ne_eqb c 0x580 (omega (arith, g, k)))

module _ (a b c d : ℕ) (f : Vsu) (e : write a (255 - b) power_on ≡ f) where
  abbrev playing : ℕ → Vsu
  playing k = with_voices f (set f.voices k (voice_write 0x00 0x80 (voice_at k f.voices)))

  led-channel : {k : ℕ} → decode_of c ≡ Channel k 0x00 → led (lead_to a b c d) ≡ cond (bit 7 d) f (playing k)
  unfolding led lead_to write_to
  led-channel {k} r = rw (sym (stop-alone c) ∙ ap is_stop r) (go (bit 7 d))
    where
      go : (t : Bool) → led (cond t (Filled a (255 - b)) (Playing a (255 - b) c)) ≡ cond t f (playing k)
      go true = e
      go false = ap₂ (λ (q : Register) (u : Vsu). write_to q 0x80 u) r e

  led-stop : decode_of c ≡ Stop → led (lead_to a b c d) ≡ playing 4
  unfolding led lead_to decode_of write_to
  led-stop r = rw (sym (stop-alone c) ∙ ap is_stop r) (ap (write 0x500 0x80) e)

-- A sample or an entry beside them, by their addresses.

module _ (a : ℕ) {b : ℕ} (h : b < 256) (c d at : ℕ) where
  wave-held : decode_of a ≡ Wave at → at < 160 → {k : ℕ} → k < 6 → decode_of c ≡ Channel k 0x00 → EitherOrder (Wave at) b (Channel k 0x00) d (led (lead_to a b c d)) → ⊥
  wave-held r l {k} m q x =
      let f : write a (255 - b) power_on ≡ sampled at l h = ap (λ (z : Register). write_to z (255 - b) power_on) r ∙ sample-filled at l h in
      sample-channel at l h k m d (bit 7 d) refl (subst (EitherOrder (Wave at) b (Channel k 0x00) d) (led-channel a b c d _ f q) x)

  wave-stopped : decode_of a ≡ Wave at → at < 160 → decode_of c ≡ Stop → bit 0 d ≡ true → EitherOrder (Wave at) b Stop d (led (lead_to a b c d)) → ⊥
  wave-stopped r l q e x =
      let f : write a (255 - b) power_on ≡ sampled at l h = ap (λ (z : Register). write_to z (255 - b) power_on) r ∙ sample-filled at l h in
      sample-stop at l h d e (subst (EitherOrder (Wave at) b Stop d) (led-stop a b c d _ f q) x)

  modulation-held : decode_of a ≡ Modulation at → at < 32 → decode_of c ≡ Channel 4 0x00 → EitherOrder (Modulation at) b (Channel 4 0x00) d (led (lead_to a b c d)) → ⊥
  modulation-held r l q x =
      let f : write a (255 - b) power_on ≡ entered at l h = ap (λ (z : Register). write_to z (255 - b) power_on) r ∙ entry-filled at l h in
      entry-channel at l h d (bit 7 d) refl (subst (EitherOrder (Modulation at) b (Channel 4 0x00) d) (led-channel a b c d _ f q) x)

  modulation-stopped : decode_of a ≡ Modulation at → at < 32 → decode_of c ≡ Stop → bit 0 d ≡ true → EitherOrder (Modulation at) b Stop d (led (lead_to a b c d)) → ⊥
  modulation-stopped r l q e x =
      let f : write a (255 - b) power_on ≡ entered at l h = ap (λ (z : Register). write_to z (255 - b) power_on) r ∙ entry-filled at l h in
      entry-stop at l h d e (subst (EitherOrder (Modulation at) b Stop d) (led-stop a b c d _ f q) x)

-- Two bytes for one place: power-on shows it.

later-differs : {A : Type 0} (p : Bool) → p ≡ false → (l : List A) (at : ℕ) (x y none : A) → at < length l → (x ≡ y → ⊥) → cond p (cond p l (set l at x)) (set (cond p l (set l at x)) at y) ≡ cond p (cond p l (set l at y)) (set (cond p l (set l at y)) at x) → ⊥
later-differs true f l at x y none h n e = true≢false f
later-differs false f l at x y none h n e =
    n
    (sym (get_or-set_same (set l at y) at x none (rw length-set h))
    ∙ sym (ap (λ m. get_or m at none) e)
    ∙ get_or-set_same (set l at x) at y none (rw length-set h))

module _ {b d : ℕ} (h : b < 256) (g : d < 256) where
  wave-twice : (at : ℕ) → at < 160 → (b % 64 ≡ d % 64 → ⊥) → EitherOrder (Wave at) b (Wave at) d power_on → ⊥
  wave-twice at l n x =
      later-differs (any_plays quiet) none-plays power_on.waves at (b % 64) (d % 64) 0 (sample-there at l h) n
      (waves-agree (Wave at) b (Wave at) d power_on x)

  modulation-twice : (at : ℕ) → at < 32 → (b ≡ d → ⊥) → EitherOrder (Modulation at) b (Modulation at) d power_on → ⊥
  modulation-twice at l n x =
      later-differs (plays (voice_at 4 quiet)) (not-one quiet 4 none-plays) power_on.modulation at (signed b) (signed d) (pos 0) (entry-there at l h)
      (λ e. n (sym (signed_back h) ∙ ap unsigned e ∙ signed_back g))
      (entries-agree (Modulation at) b (Modulation at) d power_on x)

  channel-twice : (k o : ℕ) → k < 6 → (kept k o b ≡ kept k o d → ⊥) → EitherOrder (Channel k o) b (Channel k o) d power_on → ⊥
  unfolding power_on
  channel-twice k o m n x =
      let v : Voice = voice_at k off_voices in
      let one : set off_voices k (voice_write o d v) ≡ set off_voices k (voice_write o b v) =
      ap (set off_voices k) (sym (later-stays d b h o v))
      ∙ sym (voice-twice off_voices k (voice_write o b) (voice_write o d))
      ∙ voices-agree (Channel k o) b (Channel k o) d power_on x
      ∙ voice-twice off_voices k (voice_write o d) (voice_write o b)
      ∙ ap (set off_voices k) (later-stays b d g o v) in
      let same : voice_write o d v ≡ voice_write o b v = sym (get_or-set_same off_voices k _ off_wave m) ∙ ap (voice_at k) one ∙ get_or-set_same off_voices k _ off_wave m in
      n (sym (reads-back k h m o) ∙ ap (read o) (sym same) ∙ reads-back k g m o)

  -- a channel that is started beside one that is stopped
  start-and-stop : (k : ℕ) → k < 6 → bit 7 b ≡ true → bit 0 d ≡ true → EitherOrder (Channel k 0x00) b Stop d power_on → ⊥
  start-and-stop k m e f x =
      let y : map stop_voice (voices_by (Channel k 0x00) b quiet) ≡ voices_by (Channel k 0x00) b (map stop_voice quiet) =
      subst
      (λ (t : Bool). cond t (map stop_voice (voices_by (Channel k 0x00) b quiet)) (voices_by (Channel k 0x00) b quiet) ≡ voices_by (Channel k 0x00) b (cond t (map stop_voice quiet) quiet))
      f
      (voices-agree (Channel k 0x00) b Stop d power_on x) in
      true≢false
      (sym (plays-there (map stop_voice quiet) k _ (rw (length-map quiet stop_voice, six-voices) m) (plays-written b (voice_at k (map stop_voice quiet)) ∙ e))
      ∙ sym (ap any_plays y)
      ∙ stopped-plays (voices_by (Channel k 0x00) b quiet))

-- By the registers of both.

clash : (p q : Bool) → (not p || q) ≡ false → (p ≡ true) × (q ≡ false)
clash true q e = (refl, e)
clash false q e = absurd (true≢false e)

was : (t : Bool) → not t ≡ false → t ≡ true
was true e = refl
was false e = absurd (true≢false e)

module _ (a b c d : ℕ) where
  abbrev Differs : Register → Register → Type 0
  Differs r s = EitherOrder r b s d (worked a b c d) → ⊥

  -- which lead it is
  free : dropped (decode_of a) ≡ dropped (decode_of c) → worked a b c d ≡ power_on
  unfolding lead_of led
  free e = rw e (ap led (go (dropped (decode_of c))))
    where
      go : (t : Bool) → cond t (cond t PowerOn (lead_to a b c d)) (cond t (lead_to c d a b) PowerOn) ≡ PowerOn
      go true = refl
      go false = refl

  held : dropped (decode_of a) ≡ true → dropped (decode_of c) ≡ false → worked a b c d ≡ led (lead_to a b c d)
  unfolding lead_of
  held e f = rw (e, f)

  holds : dropped (decode_of a) ≡ false → dropped (decode_of c) ≡ true → worked a b c d ≡ led (lead_to c d a b)
  unfolding lead_of
  holds e f = rw (e, f)

  -- one place
  at_one : {A : Type 0} (r : A → Register) {i j : A} → i ≡ j → (u : Vsu) → EitherOrder (r i) b (r j) d u → EitherOrder (r i) b (r i) d u
  at_one r {i} e u x = subst (λ z. EitherOrder (r i) b (r z) d u) (sym e) x

  module _ (h : b < 256) (g : d < 256) where
    differs : (r s : Register) → decode_of a ≡ r → decode_of c ≡ s → Fits r → Fits s → beside r b s d ≡ false → Differs r s
    unfolding beside beside_wave beside_modulation beside_channel beside_stop dropped
    differs (Wave at) (Wave to) p q l m y x =
        let e = clash (eqb at to) (eqb (b % 64) (d % 64)) y in
        wave-twice h g at l (eqb-false (b % 64) (d % 64) e.1)
        (at_one Wave (eqb-true at to e.0) power_on (subst (EitherOrder (Wave at) b (Wave to) d) (free (ap dropped p ∙ sym (ap dropped q))) x))
    differs (Wave at) (Modulation to) p q l m y x = true≢false y
    differs (Wave at) (Channel k o) p q l m y x =
        let e : o ≡ 0x00 = eqb-true o 0x00 (was (eqb o 0x00) y) in
        wave-held a h c d at p l m (q ∙ ap (Channel k) e)
        (subst (λ z. EitherOrder (Wave at) b (Channel k z) d (led (lead_to a b c d))) e (subst (EitherOrder (Wave at) b (Channel k o) d) (held (ap dropped p) (ap dropped q)) x))
    differs (Wave at) Stop p q l m y x =
        wave-stopped a h c d at p l q (was (bit 0 d) y) (subst (EitherOrder (Wave at) b Stop d) (held (ap dropped p) (ap dropped q)) x)
    differs (Wave at) Nothing p q l m y x = true≢false y
    differs (Modulation at) (Wave to) p q l m y x = true≢false y
    differs (Modulation at) (Modulation to) p q l m y x =
        let e = clash (eqb at to) (eqb b d) y in
        modulation-twice h g at l (eqb-false b d e.1)
        (at_one Modulation (eqb-true at to e.0) power_on (subst (EitherOrder (Modulation at) b (Modulation to) d) (free (ap dropped p ∙ sym (ap dropped q))) x))
    differs (Modulation at) (Channel k o) p q l m y x =
        each (eqb k 4) (eqb o 0x00 ∷ []) (was (eqb k 4 && eqb o 0x00) y)
        (λ t.
        let e : Channel k o ≡ Channel 4 0x00 = ap₂ Channel (eqb-true k 4 t.0) (eqb-true o 0x00 t.1.0) in
        modulation-held a h c d at p l (q ∙ e)
        (subst (λ z. EitherOrder (Modulation at) b z d (led (lead_to a b c d))) e (subst (EitherOrder (Modulation at) b (Channel k o) d) (held (ap dropped p) (ap dropped q)) x)))
    differs (Modulation at) Stop p q l m y x =
        modulation-stopped a h c d at p l q (was (bit 0 d) y) (subst (EitherOrder (Modulation at) b Stop d) (held (ap dropped p) (ap dropped q)) x)
    differs (Modulation at) Nothing p q l m y x = true≢false y
    differs (Channel k o) (Wave to) p q l m y x =
        let e : o ≡ 0x00 = eqb-true o 0x00 (was (eqb o 0x00) y) in
        wave-held c g a b to q m l (p ∙ ap (Channel k) e)
        (subst (λ z. EitherOrder (Wave to) d (Channel k z) b (led (lead_to c d a b))) e (subst (EitherOrder (Wave to) d (Channel k o) b) (holds (ap dropped p) (ap dropped q)) (sym x)))
    differs (Channel k o) (Modulation to) p q l m y x =
        each (eqb k 4) (eqb o 0x00 ∷ []) (was (eqb k 4 && eqb o 0x00) y)
        (λ t.
        let e : Channel k o ≡ Channel 4 0x00 = ap₂ Channel (eqb-true k 4 t.0) (eqb-true o 0x00 t.1.0) in
        modulation-held c g a b to q m (p ∙ e)
        (subst (λ z. EitherOrder (Modulation to) d z b (led (lead_to c d a b))) e (subst (EitherOrder (Modulation to) d (Channel k o) b) (holds (ap dropped p) (ap dropped q)) (sym x))))
    differs (Channel k o) (Channel j i) p q l m y x =
        let t = clash (eqb k j && eqb o i) (eqb (kept k o b) (kept k o d)) y in
        each (eqb k j) (eqb o i ∷ []) t.0
        (λ t2.
        let e : Channel k o ≡ Channel j i = ap₂ Channel (eqb-true k j t2.0) (eqb-true o i t2.1.0) in
        channel-twice h g k o l (eqb-false _ _ t.1)
        (at_one (λ z. z) e power_on (subst (EitherOrder (Channel k o) b (Channel j i) d) (free (ap dropped p ∙ sym (ap dropped q))) x)))
    differs (Channel k o) Stop p q l m y x =
        each (eqb o 0x00) (bit 7 b ∷ bit 0 d ∷ []) (was (eqb o 0x00 && bit 7 b && bit 0 d) y)
        (λ t.
        start-and-stop h g k l t.1.0 t.1.1.0
        (subst (λ z. EitherOrder (Channel k z) b Stop d power_on) (eqb-true o 0x00 t.0) (subst (EitherOrder (Channel k o) b Stop d) (free (ap dropped p ∙ sym (ap dropped q))) x)))
    differs (Channel k o) Nothing p q l m y x = true≢false y
    differs Stop (Wave to) p q l m y x =
        wave-stopped c g a b to q m p (was (bit 0 b) y) (subst (EitherOrder (Wave to) d Stop b) (holds (ap dropped p) (ap dropped q)) (sym x))
    differs Stop (Modulation to) p q l m y x =
        modulation-stopped c g a b to q m p (was (bit 0 b) y) (subst (EitherOrder (Modulation to) d Stop b) (holds (ap dropped p) (ap dropped q)) (sym x))
    differs Stop (Channel k o) p q l m y x =
        each (eqb o 0x00) (bit 7 d ∷ bit 0 b ∷ []) (was (eqb o 0x00 && bit 7 d && bit 0 b) y)
        (λ t.
        start-and-stop g h k m t.1.0 t.1.1.0
        (subst (λ z. EitherOrder (Channel k z) d Stop b power_on) (eqb-true o 0x00 t.0) (subst (EitherOrder (Channel k o) d Stop b) (free (ap dropped p ∙ sym (ap dropped q))) (sym x))))
    differs Stop Stop p q l m y x = true≢false y
    differs Stop Nothing p q l m y x = true≢false y
    differs Nothing s p q l m y x = true≢false y

-- Where the table says no, the worked state is in range, and the two orders of the writes give two states on it.
pub may-not : (a b c d : ℕ) → b < 256 → d < 256 → may_exchange a b c d ≡ false → (in_range (worked a b c d) ≡ true) × (Exchanged a b c d (worked a b c d) → ⊥)
may-not a b c d h g n =
    (worked-in-range a b c d, differs a b c d h g (decode_of a) (decode_of c) refl refl (decode-fits a) (decode-fits c) n)

-- It doesn't matter which of the two is named first.
pub either_first : (a b c d : ℕ) → b < 256 → d < 256 → may_exchange a b c d ≡ may_exchange c d a b
either_first a b c d h g = go (may_exchange a b c d) (may_exchange c d a b) refl refl
  where
    go : (s t : Bool) → may_exchange a b c d ≡ s → may_exchange c d a b ≡ t → s ≡ t
    go true true e f = refl
    go true false e f = let k = may-not c d a b g h f in absurd (k.1 (sym (may-exchange a b c d h g e _ (in-range-kinds _ k.0))))
    go false true e f = let k = may-not a b c d h g e in absurd (k.1 (sym (may-exchange c d a b g h f _ (in-range-kinds _ k.0))))
    go false false e f = refl

-- Document 02's two worked states, both power-on itself, by computation.

-- "a wave write and a write at offset 0x00 may not be exchanged": the sample goes in, or is dropped since channel 0 plays
pub sample-then-start : get_or (write 0x400 0x80 (write 0x000 1 power_on)).waves 0 0 ≡ 1
unfolding decode_of write_to any_plays power_on
sample-then-start = refl

pub start-then-sample : get_or (write 0x000 1 (write 0x400 0x80 power_on)).waves 0 0 ≡ 0
unfolding decode_of write_to any_plays power_on voice_write channel_write write_interval
start-then-sample = refl

pub sample-and-start : Exchanged 0x000 1 0x400 0x80 power_on → ⊥
sample-and-start e = let one : ◌≡◌ {A = ℕ} 1 0 = sym sample-then-start ∙ ap (λ (u : Vsu). get_or u.waves 0 0) e ∙ start-then-sample in absurd (omega (arith, one))

-- "nor the stop register and such a write": channel 0 is stopped, or plays
pub start-then-stop : plays (voice_at 0 (write 0x580 1 (write 0x400 0x80 power_on)).voices) ≡ false
unfolding decode_of write_to power_on
start-then-stop = refl

pub stop-then-start : plays (voice_at 0 (write 0x400 0x80 (write 0x580 1 power_on)).voices) ≡ true
unfolding decode_of write_to power_on voice_write channel_write write_interval
stop-then-start = refl

pub start-and-stop-all : Exchanged 0x400 0x80 0x580 1 power_on → ⊥
start-and-stop-all e = true≢false (sym stop-then-start ∙ sym (ap (λ (u : Vsu). plays (voice_at 0 u.voices)) e) ∙ start-then-stop)

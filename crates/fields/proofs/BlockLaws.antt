-- A block's values and the voice that they make: one back from the other, and the range rules of both.
use Rattle.std.specs.Prelude.{◌≡◌, ℕ, zero, suc, ◌+◌, ◌%◌, ◌<◌, ◌≤◌, Bool, true, false, not, ◌&&◌, ◌||◌, eqb, ltb, leb, List, [], ◌∷◌, ◌++◌, map, length, get_or, take, drop, set}
use mathlib.Core.Path.{refl, sym, ap, ◌∙◌}
use mathlib.Core.Bool.{true≢false, beq}
use native.Mathlib.Nat.{le_trans, mod-eq_of_lt, mod-le}
use native.Mathlib.Omega.{arith}
use borrow.Author.Tests.{eqb-true, eqb-false, ne_eqb, leb-true, le-leb, le-ltb, not-true}
use lib.ListN.{length-drop}
use lib.Seq.{get_or-drop}
use Rattle.laws.proofs.Cases.{both, each}
use Rattle.common.specs.Bits.{bit}
use Rattle.common.specs.Channel.{channel_in_range, envelope_in_range, live_in_range, pitch_in_range}
use Rattle.common.specs.declared.channel.Channel.{Channel}
use Rattle.voice.specs.ChannelEnum.{is_tap, noise_in_range, noise_kind_in_range, swept_in_range, swept_kind_in_range, voice_of, wave_in_range, wave_kind_in_range}
use Rattle.sweep.specs.SweepModulate.{sweep_in_range}
use Rattle.voice.specs.declared.channel_enum.Kind.{Kind}
use Rattle.voice.specs.declared.channel_enum.Kind.TheVariants.{Wave, Swept, Noise}
use Rattle.sweep.specs.declared.sweep_modulate.SweepModulate.{SweepModulate}
use Rattle.table.proofs.TableLaws.{at}
use Rattle.table.specs.Table.{broken_by, channel, most_in, mutes, no_cell, noise, sweep, wave}
use Rattle.table.specs.declared.Cell.{Cell}
use Rattle.table.specs.declared.Own.{Own}
use Rattle.table.specs.declared.Own.TheVariants.{None, Tap, LowestBit}
use Rattle.fields.specs.Fields.{bit_of, byte, half, channel_by, envelope_by, flags_of, from, live_by, ninth_of, noise_by, pitch_by, shift_of, sweep_by, swept_by, tail_fields, tenth_of, voice_fields, wave_by}
use Rattle.fields.proofs.FieldsLaws.{bit_le}

-- flags: unpacked and packed

abbrev each_way : (Bool → Bool) → Bool
each_way t = t true && t false

of-each : (t : Bool → Bool) → each_way t ≡ true → (b : Bool) → t b ≡ true
of-each t h true = each (t true) (t false ∷ []) h (λ k. k.0)
of-each t h false = each (t true) (t false ∷ []) h (λ k. k.1.0)

pub flags-most : (a b c d e : Bool) → flags_of a b c d e ≤ 31
unfolding flags_of
flags-most a b c d e = omega (arith, bit_le a, bit_le b, bit_le c, bit_le d, bit_le e)

pub packed : (f : ℕ) → f ≤ 31 → flags_of (bit 0 f) (bit 1 f) (bit 2 f) (bit 3 f) (bit 4 f) ≡ f
unfolding flags_of
packed f h = eqb-true _ _ (at (λ (f : ℕ). eqb (flags_of (bit 0 f) (bit 1 f) (bit 2 f) (bit 3 f) (bit 4 f)) f) 32 f refl (omega arith))

abbrev same : Bool → Bool → Bool
same true b = b
same false b = not b

same_true : (a b : Bool) → same a b ≡ true → a ≡ b
same_true true b h = sym h
same_true false true h = h
same_true false false h = refl

pub unpacked : (k : ℕ) (pick : Bool → Bool → Bool → Bool → Bool → Bool) → each_way (λ a. each_way (λ b. each_way (λ c. each_way (λ d. each_way (λ e. same (bit k (flags_of a b c d e)) (pick a b c d e)))))) ≡ true → (a b c d e : Bool) → bit k (flags_of a b c d e) ≡ pick a b c d e
unpacked k pick h a b c d e =
    same_true _ _
    (of-each (λ e. same (bit k (flags_of a b c d e)) (pick a b c d e))
    (of-each (λ d. each_way (λ e. same (bit k (flags_of a b c d e)) (pick a b c d e)))
    (of-each (λ c. each_way (λ d. each_way (λ e. same (bit k (flags_of a b c d e)) (pick a b c d e))))
    (of-each (λ b. each_way (λ c. each_way (λ d. each_way (λ e. same (bit k (flags_of a b c d e)) (pick a b c d e)))))
    (of-each (λ a. each_way (λ b. each_way (λ c. each_way (λ d. each_way (λ e. same (bit k (flags_of a b c d e)) (pick a b c d e)))))) h a) b) c) d) e)

module _ (a b c d e : Bool) where
  unpacked-0 : bit 0 (flags_of a b c d e) ≡ a
  unfolding flags_of
  unpacked-0 = unpacked 0 (λ a b c d e. a) refl a b c d e

  unpacked-1 : bit 1 (flags_of a b c d e) ≡ b
  unfolding flags_of
  unpacked-1 = unpacked 1 (λ a b c d e. b) refl a b c d e

  unpacked-2 : bit 2 (flags_of a b c d e) ≡ c
  unfolding flags_of
  unpacked-2 = unpacked 2 (λ a b c d e. c) refl a b c d e

  unpacked-3 : bit 3 (flags_of a b c d e) ≡ d
  unfolding flags_of
  unpacked-3 = unpacked 3 (λ a b c d e. d) refl a b c d e

  unpacked-4 : bit 4 (flags_of a b c d e) ≡ e
  unfolding flags_of
  unpacked-4 = unpacked 4 (λ a b c d e. e) refl a b c d e

-- a value that has no more than one byte, or two

pub byte-same : (x : ℕ) → x ≤ 255 → byte x ≡ x
byte-same x h = mod-eq_of_lt (omega arith)

pub half-same : (x : ℕ) → x ≤ 65535 → half x ≡ x
half-same x h = mod-eq_of_lt (omega arith)

cut-le : (x m : ℕ) {n : ℕ} → x ≤ n → x % m ≤ n
cut-le x m h = le_trans (mod-le x m) h

flags-same : (a b c d e : Bool) → byte (flags_of a b c d e) ≡ flags_of a b c d e
flags-same a b c d e = byte-same _ (le_trans (flags-most a b c d e) (omega arith))

-- what the range rules say of a channel, one by one

module _ (c : Channel) (most : ℕ) (h : channel_in_range most c ≡ true) where
  pub record Ranged : Type 0 where
    pub live-tick : c.live.tick ≤ 76804
    pub live-interval : c.live.interval ≤ 31
    pub live-counter : c.live.counter ≤ 31
    pub tick : c.pitch.tick ≤ most
    pub frequency : c.pitch.frequency ≤ 2047
    pub counter : c.pitch.counter ≤ 2047
    pub envelope-tick : c.envelope.tick ≤ 307218
    pub interval : c.envelope.interval ≤ 7
    pub step : c.envelope.step ≤ 7
    pub level : c.envelope.level ≤ 15
    pub reload : c.envelope.reload ≤ 15
    pub left : c.left ≤ 15
    pub right : c.right ≤ 15

  pub ranged : Ranged
  unfolding channel_in_range live_in_range pitch_in_range envelope_in_range
  ranged =
      each (live_in_range c.live) (pitch_in_range most c.pitch ∷ envelope_in_range c.envelope ∷ leb c.left 15 ∷ leb c.right 15 ∷ []) h
      (λ k.
      each (leb c.live.tick 76804) (leb c.live.interval 31 ∷ leb c.live.counter 31 ∷ []) k.0
      (λ l.
      each (leb c.pitch.tick most) (leb c.pitch.frequency 2047 ∷ leb c.pitch.counter 2047 ∷ []) k.1.0
      (λ p.
      each (leb c.envelope.tick 307218) (leb c.envelope.interval 7 ∷ leb c.envelope.step 7 ∷ leb c.envelope.level 15 ∷ leb c.envelope.reload 15 ∷ []) k.1.1.0
      (λ e.
      record {
        live-tick = leb-true _ _ l.0;
        live-interval = leb-true _ _ l.1.0;
        live-counter = leb-true _ _ l.1.1.0;
        tick = leb-true _ _ p.0;
        frequency = leb-true _ _ p.1.0;
        counter = leb-true _ _ p.1.1.0;
        envelope-tick = leb-true _ _ e.0;
        interval = leb-true _ _ e.1.0;
        step = leb-true _ _ e.1.1.0;
        level = leb-true _ _ e.1.1.1.0;
        reload = leb-true _ _ e.1.1.1.1.0;
        left = leb-true _ _ k.1.1.1.0;
        right = leb-true _ _ k.1.1.1.1.0;
      }))))

-- the voice of a voice's values, whatever follows them

module _ (c : Channel) (k : Kind) (rest : List ℕ) (most : ℕ) (h : channel_in_range most c ≡ true) where
  abbrev of : ℕ → ℕ
  of j = get_or (voice_fields (voice_of c k) ++ rest) j 0

  pub channel-back : channel_by of ≡ c
  unfolding channel_by live_by pitch_by envelope_by voice_fields
  channel-back =
      let g = ranged c most h in
      let l = c.live in
      let e = c.envelope in
      rw
      (flags-same l.auto l.playing e.up e.on e.looped, unpacked-0 l.auto l.playing e.up e.on e.looped, unpacked-1 l.auto l.playing e.up e.on e.looped, unpacked-2 l.auto l.playing e.up e.on e.looped, unpacked-3 l.auto l.playing e.up e.on e.looped, unpacked-4 l.auto l.playing e.up e.on e.looped, byte-same l.interval (omega (arith, g.live-interval)), byte-same l.counter (omega (arith, g.live-counter)), byte-same c.left (omega (arith, g.left)), byte-same c.right (omega (arith, g.right)), byte-same e.level (omega (arith, g.level)), byte-same e.interval (omega (arith, g.interval)), byte-same e.reload (omega (arith, g.reload)), byte-same e.step (omega (arith, g.step)), half-same c.pitch.frequency (omega (arith, g.frequency)), half-same c.pitch.counter (omega (arith, g.counter)))

  pub wave-back : (bank position : ℕ) → bank ≤ 255 → position ≤ 255 → k ≡ Wave bank position → wave_by of ≡ voice_of c k
  unfolding wave_by voice_fields ninth_of tenth_of
  wave-back bank position b p e = rw (channel-back, e, byte-same bank b, byte-same position p)

  pub noise-back : (shift tap : ℕ) (output : Bool) → shift ≤ 65535 → tap ≤ 255 → k ≡ Noise shift tap output → noise_by of ≡ voice_of c k
  unfolding noise_by voice_fields ninth_of tenth_of shift_of
  noise-back shift tap output s t e =
      rw (channel-back, e, half-same shift s, byte-same tap t, byte-same (bit_of output) (le_trans (bit_le output) (omega arith)))
      (ap (λ (b : Bool). voice_of c (Noise shift tap b)) (heard output))
    where
      heard : (b : Bool) → eqb (bit_of b) 1 ≡ b
      heard true = refl
      heard false = refl

  pub swept-back : (bank position : ℕ) (s : SweepModulate) (v : ℕ → ℕ) → bank ≤ 255 → position ≤ 255 → k ≡ Swept bank position s → sweep_by v ≡ s → swept_by of v ≡ voice_of c k
  unfolding swept_by voice_fields ninth_of tenth_of
  swept-back bank position s v b p e d = rw (channel-back, d, e, byte-same bank b, byte-same position p)

pub sweep-back : (bank position : ℕ) (s : SweepModulate) (output mutes : ℕ) (rest : List ℕ) → sweep_in_range s ≡ true → sweep_by (λ j. get_or (tail_fields (Swept bank position s) output mutes ++ rest) j 0) ≡ s
unfolding sweep_by tail_fields sweep_in_range
sweep-back bank position s output mutes rest h =
    each (leb s.step 153608) (leb s.last 2047 ∷ leb s.current 2047 ∷ leb s.next 2047 ∷ leb s.interval 7 ∷ leb s.shift 7 ∷ leb s.counter 6 ∷ leb s.index 31 ∷ []) h
    (λ g.
    rw
    (flags-same s.enable s.looped s.modulate s.slow s.up, unpacked-0 s.enable s.looped s.modulate s.slow s.up, unpacked-1 s.enable s.looped s.modulate s.slow s.up, unpacked-2 s.enable s.looped s.modulate s.slow s.up, unpacked-3 s.enable s.looped s.modulate s.slow s.up, unpacked-4 s.enable s.looped s.modulate s.slow s.up, half-same s.last (omega (arith, leb-true s.last 2047 g.1.0)), half-same s.current (omega (arith, leb-true s.current 2047 g.1.1.0)), half-same s.next (omega (arith, leb-true s.next 2047 g.1.1.1.0)), byte-same s.interval (omega (arith, leb-true s.interval 7 g.1.1.1.1.0)), byte-same s.shift (omega (arith, leb-true s.shift 7 g.1.1.1.1.1.0)), byte-same s.counter (omega (arith, leb-true s.counter 6 g.1.1.1.1.1.1.0)), byte-same s.index (omega (arith, leb-true s.index 31 g.1.1.1.1.1.1.1.0))))

-- values that keep their rules: a largest value, and an own rule

abbrev pub Rule : Type 0
Rule = ℕ × Own

abbrev pub plainly : List Cell → List Rule
plainly = map (λ (c : Cell). (most_in c, None))

abbrev pub channel_rules : Rule → Rule → ℕ → ℕ → List Rule
channel_rules ninth tenth tick shift = set (set (plainly (channel ninth.0 tenth.0 tick shift)) 9 ninth) 10 tenth

abbrev bank_rule : Rule
bank_rule = (7, None)

abbrev position_rule : Rule
position_rule = (31, None)

abbrev pub wave_rules : List Rule
wave_rules = channel_rules bank_rule position_rule 3 0

abbrev pub noise_rules : List Rule
noise_rules = channel_rules (14, Tap) (1, LowestBit) 39 32767

abbrev pub faulty_in : ℕ → Rule → ℕ → Bool
faulty_in shift r x = ltb r.0 x || broken_by r.1 r.0 shift x

abbrev pub keep : ℕ → List Rule → List ℕ → Bool
keep shift [] xs = true
keep shift (c ∷ cs) [] = true
keep shift (c ∷ cs) (x ∷ xs) = not (faulty_in shift c x) && keep shift cs xs

-- a value that is no larger than the largest is not at fault where there is no other rule
plain : (shift : ℕ) (r : Rule) (x : ℕ) → r.1 ≡ None → x ≤ r.0 → faulty_in shift r x ≡ false
unfolding broken_by
plain shift r x e h = rw (le-ltb r.0 x h, e)

-- the eight taps are no larger than 14
tap-high : (t : ℕ) → 14 < t → is_tap t ≡ false
tap-high t h =
    rw (ne_eqb t 14 (omega arith), ne_eqb t 10 (omega arith), ne_eqb t 13 (omega arith), ne_eqb t 4 (omega arith), ne_eqb t 8 (omega arith), ne_eqb t 6 (omega arith), ne_eqb t 9 (omega arith), ne_eqb t 11 (omega arith))

pub tap-most : (t : ℕ) → is_tap t ≡ true → t ≤ 14
tap-most t h =
    let high : 14 < t → ⊥ = λ l. true≢false (sym h ∙ tap-high t l) in
    omega arith

beq-true : (b : Bool) → beq true b ≡ true → b ≡ true
beq-true true h = refl
beq-true false h = h

beq-false : (b : Bool) → beq false b ≡ true → b ≡ false
beq-false true h = sym h
beq-false false h = refl

beq_same : (b : Bool) → beq b b ≡ true
beq_same true = refl
beq_same false = refl

-- the values of a voice in range keep their rules

module _ (c : Channel) (most : ℕ) (h : channel_in_range most c ≡ true) where
  -- the values of any voice of this channel, where its own three keep their rules
  keep-channel : (shift : ℕ) (ninth tenth : Rule) (shifts : ℕ) (k : Kind) → faulty_in shift ninth (ninth_of k) ≡ false → faulty_in shift tenth (tenth_of k) ≡ false → shift_of k ≤ shifts → keep shift (channel_rules ninth tenth most shifts) (voice_fields (voice_of c k)) ≡ true
  unfolding voice_fields broken_by
  keep-channel shift ninth tenth shifts k p q r =
      let g = ranged c most h in
      rw
      (le-ltb 31 _ (flags-most c.live.auto c.live.playing c.envelope.up c.envelope.on c.envelope.looped), le-ltb 31 _ g.live-interval, le-ltb 31 _ g.live-counter, le-ltb 15 _ g.left, le-ltb 15 _ g.right, le-ltb 15 _ g.level, le-ltb 7 _ g.interval, le-ltb 15 _ g.reload, le-ltb 7 _ g.step, p, q, le-ltb 2047 _ g.frequency, le-ltb 2047 _ g.counter, le-ltb 76804 _ g.live-tick, le-ltb most _ g.tick, le-ltb 307218 _ g.envelope-tick, le-ltb shifts _ r)

module _ (shift : ℕ) (c : Channel) where
  pub no_kind : {P : Type 0} (most : ℕ) → (channel_in_range most c && false) ≡ true → P
  no_kind most h = each (channel_in_range most c) (false ∷ []) h (λ r. absurd (true≢false (sym r.1.0)))

  pub keep-wave : (k : Kind) → wave_in_range (voice_of c k) ≡ true → keep shift wave_rules (voice_fields (voice_of c k)) ≡ true
  unfolding wave_in_range wave_kind_in_range ninth_of tenth_of shift_of
  keep-wave (Wave bank position) h =
      each (channel_in_range 3 c) ((leb bank 7 && leb position 31) ∷ []) h
      (λ r. each (leb bank 7) (leb position 31 ∷ []) r.1.0
      (λ b. keep-channel c 3 r.0 shift bank_rule position_rule 0 (Wave bank position) (plain shift bank_rule bank refl (leb-true _ _ b.0)) (plain shift position_rule position refl (leb-true _ _ b.1.0)) (omega arith)))
  keep-wave (Swept bank position s) h = no_kind 3 h
  keep-wave (Noise s tap output) h = no_kind 3 h

  pub keep-swept : (k : Kind) → swept_in_range (voice_of c k) ≡ true → keep shift wave_rules (voice_fields (voice_of c k)) ≡ true
  unfolding swept_in_range swept_kind_in_range ninth_of tenth_of shift_of
  keep-swept (Wave bank position) h = no_kind 3 h
  keep-swept (Swept bank position s) h =
      each (channel_in_range 3 c) ((leb bank 7 && leb position 31 && sweep_in_range s) ∷ []) h
      (λ r. each (leb bank 7) (leb position 31 ∷ sweep_in_range s ∷ []) r.1.0
      (λ b. keep-channel c 3 r.0 shift bank_rule position_rule 0 (Swept bank position s) (plain shift bank_rule bank refl (leb-true _ _ b.0)) (plain shift position_rule position refl (leb-true _ _ b.1.0)) (omega arith)))
  keep-swept (Noise s tap output) h = no_kind 3 h

  -- the shift's own value is what the output is compared with
  pub keep-noise : (k : Kind) → noise_in_range (voice_of c k) ≡ true → shift_of k ≡ shift → keep shift noise_rules (voice_fields (voice_of c k)) ≡ true
  unfolding noise_in_range noise_kind_in_range ninth_of tenth_of shift_of broken_by
  keep-noise (Wave bank position) h e = no_kind 39 h
  keep-noise (Swept bank position s) h e = no_kind 39 h
  keep-noise (Noise s tap output) h e =
      each (channel_in_range 39 c) ((leb s 32767 && is_tap tap && beq output (eqb (s % 2) 1)) ∷ []) h
      (λ r. each (leb s 32767) (is_tap tap ∷ beq output (eqb (s % 2) 1) ∷ []) r.1.0
      (λ b. keep-channel c 39 r.0 shift (14, Tap) (1, LowestBit) 32767 (Noise s tap output) (tap-kept tap b.1.0) (output-kept output (rw e at b.1.1.0)) (leb-true _ _ b.0)))
    where
      tap-kept : (t : ℕ) → is_tap t ≡ true → (ltb 14 t || not (is_tap t)) ≡ false
      tap-kept t p = rw (p, le-ltb 14 t (tap-most t p))

      output-kept : (o : Bool) → beq o (eqb (shift % 2) 1) ≡ true → (ltb 1 (bit_of o) || not (eqb (bit_of o) (shift % 2))) ≡ false
      output-kept true p = let e : shift % 2 ≡ 1 = eqb-true _ _ (beq-true (eqb (shift % 2) 1) p) in rw e
      output-kept false p = let e : shift % 2 ≡ 0 = omega (arith, eqb-false (shift % 2) 1 (beq-false (eqb (shift % 2) 1) p)) in rw e

-- what follows the channels: the sweep with the output counter, then the mutes
abbrev pub tail_cells : List Cell
tail_cells = sweep ++ mutes

-- their values, in range
pub keep-tail : (shift : ℕ) (c : Channel) (k : Kind) (output muted : ℕ) → swept_in_range (voice_of c k) ≡ true → output ≤ 479 → muted ≤ 63 → keep shift (plainly tail_cells) (tail_fields k output muted) ≡ true
unfolding swept_in_range swept_kind_in_range sweep_in_range tail_fields broken_by
keep-tail shift c (Wave bank position) output muted h l m = no_kind shift c 3 h
keep-tail shift c (Swept bank position s) output muted h l m =
    each (channel_in_range 3 c) ((leb bank 7 && leb position 31 && sweep_in_range s) ∷ []) h
    (λ r. each (leb bank 7) (leb position 31 ∷ sweep_in_range s ∷ []) r.1.0
    (λ b. each (leb s.step 153608) (leb s.last 2047 ∷ leb s.current 2047 ∷ leb s.next 2047 ∷ leb s.interval 7 ∷ leb s.shift 7 ∷ leb s.counter 6 ∷ leb s.index 31 ∷ []) b.1.1.0
    (λ g. rw (le-ltb 31 _ (flags-most s.enable s.looped s.modulate s.slow s.up), le-ltb 7 _ (leb-true _ _ g.1.1.1.1.0), le-ltb 7 _ (leb-true _ _ g.1.1.1.1.1.0), le-ltb 6 _ (leb-true _ _ g.1.1.1.1.1.1.0), le-ltb 153608 _ (leb-true _ _ g.0), le-ltb 31 _ (leb-true _ _ g.1.1.1.1.1.1.1.0), le-ltb 2047 _ (leb-true _ _ g.1.0), le-ltb 2047 _ (leb-true _ _ g.1.1.0), le-ltb 2047 _ (leb-true _ _ g.1.1.1.0), le-ltb 479 _ l, le-ltb 63 _ m))))
keep-tail shift c (Noise s tap output·bit) output muted h l m = no_kind shift c 3 h

-- the voice of values that keep their largest values is in range

module _ (v : ℕ → ℕ) (cells : List Cell) where
  abbrev pub Bounded : ℕ → Type 0
  Bounded n = (j : ℕ) → j < n → v j ≤ most_in (get_or cells j no_cell)

channel-range : (v : ℕ → ℕ) (ninth tenth most shifts : ℕ) → Bounded v (channel ninth tenth most shifts) 19 → channel_in_range most (channel_by v) ≡ true
unfolding channel_in_range live_in_range pitch_in_range envelope_in_range channel_by live_by pitch_by envelope_by
channel-range v ninth tenth most shifts h =
    both
    (both
    (both
    (both
    (both (both (le-leb _ _ (h 14 (omega arith))) (le-leb _ _ (cut-le _ _ (h 1 (omega arith))))) (le-leb _ _ (cut-le _ _ (h 2 (omega arith)))))
    (both (both (le-leb _ _ (h 15 (omega arith))) (le-leb _ _ (cut-le _ _ (h 12 (omega arith))))) (le-leb _ _ (cut-le _ _ (h 13 (omega arith))))))
    (both (both (both (both (le-leb _ _ (h 16 (omega arith))) (le-leb _ _ (cut-le _ _ (h 6 (omega arith))))) (le-leb _ _ (cut-le _ _ (h 8 (omega arith))))) (le-leb _ _ (cut-le _ _ (h 5 (omega arith))))) (le-leb _ _ (cut-le _ _ (h 7 (omega arith))))))
    (le-leb _ _ (cut-le _ _ (h 3 (omega arith)))))
    (le-leb _ _ (cut-le _ _ (h 4 (omega arith))))

pub wave-range : (v : ℕ → ℕ) → Bounded v wave 19 → wave_in_range (wave_by v) ≡ true
unfolding wave_in_range wave_kind_in_range wave_by
wave-range v h =
    both (channel-range v 7 31 3 0 h) (both (le-leb _ _ (cut-le _ _ (h 9 (omega arith)))) (le-leb _ _ (cut-le _ _ (h 10 (omega arith)))))

pub swept-range : (v s : ℕ → ℕ) → Bounded v wave 19 → Bounded s tail_cells 13 → swept_in_range (swept_by v s) ≡ true
unfolding swept_in_range swept_kind_in_range swept_by sweep_in_range sweep_by
swept-range v s h g =
    both (channel-range v 7 31 3 0 h)
    (both (both (le-leb _ _ (cut-le _ _ (h 9 (omega arith)))) (le-leb _ _ (cut-le _ _ (h 10 (omega arith)))))
    (both
    (both
    (both
    (both
    (both
    (both (both (le-leb _ _ (g 4 (omega arith))) (le-leb _ _ (cut-le _ _ (g 7 (omega arith))))) (le-leb _ _ (cut-le _ _ (g 8 (omega arith)))))
    (le-leb _ _ (cut-le _ _ (g 9 (omega arith)))))
    (le-leb _ _ (cut-le _ _ (g 1 (omega arith)))))
    (le-leb _ _ (cut-le _ _ (g 2 (omega arith)))))
    (le-leb _ _ (cut-le _ _ (g 3 (omega arith)))))
    (le-leb _ _ (cut-le _ _ (g 5 (omega arith))))))

pub noise-range : (v : ℕ → ℕ) → Bounded v noise 19 → is_tap (v 9) ≡ true → v 10 ≡ v 17 % 2 → noise_in_range (noise_by v) ≡ true
unfolding noise_in_range noise_kind_in_range noise_by
noise-range v h t o =
    let tap : byte (v 9) ≡ v 9 = byte-same (v 9) (omega (arith, h 9 (omega arith))) in
    let output : byte (v 10) ≡ v 10 = byte-same (v 10) (omega (arith, h 10 (omega arith))) in
    let shift : half (v 17) ≡ v 17 = half-same (v 17) (omega (arith, h 17 (omega arith))) in
    both (channel-range v 14 1 39 32767 h)
    (both (both (le-leb _ _ (cut-le _ _ (h 17 (omega arith)))) (rw tap t)) (rw (output, shift, o) (beq_same (eqb (v 17 % 2) 1))))

-- the values of a voice that values make

abbrev pub tab : ℕ → (ℕ → ℕ) → List ℕ
tab zero v = []
tab (suc n) v = v 0 ∷ tab n (λ j. v (suc j))

pub wave-again : (v : ℕ → ℕ) → Bounded v wave 19 → voice_fields (wave_by v) ≡ tab 19 v
unfolding voice_fields wave_by channel_by live_by pitch_by envelope_by ninth_of tenth_of shift_of
wave-again v h =
    let a : v 11 ≡ 0 = omega (arith, h 11 (omega arith)) in
    let b : v 17 ≡ 0 = omega (arith, h 17 (omega arith)) in
    let d : v 18 ≡ 0 = omega (arith, h 18 (omega arith)) in
    rw (byte-same (v 0) (omega (arith, h 0 (omega arith))), packed (v 0) (h 0 (omega arith)), byte-same (v 1) (omega (arith, h 1 (omega arith))), byte-same (v 2) (omega (arith, h 2 (omega arith))), byte-same (v 3) (omega (arith, h 3 (omega arith))), byte-same (v 4) (omega (arith, h 4 (omega arith))), byte-same (v 5) (omega (arith, h 5 (omega arith))), byte-same (v 6) (omega (arith, h 6 (omega arith))), byte-same (v 7) (omega (arith, h 7 (omega arith))), byte-same (v 8) (omega (arith, h 8 (omega arith))), byte-same (v 9) (omega (arith, h 9 (omega arith))), byte-same (v 10) (omega (arith, h 10 (omega arith))), half-same (v 12) (omega (arith, h 12 (omega arith))), half-same (v 13) (omega (arith, h 13 (omega arith))), a, b, d)

pub swept-again : (v s : ℕ → ℕ) → Bounded v wave 19 → voice_fields (swept_by v s) ≡ tab 19 v
unfolding voice_fields swept_by channel_by live_by pitch_by envelope_by ninth_of tenth_of shift_of
swept-again v s h =
    let a : v 11 ≡ 0 = omega (arith, h 11 (omega arith)) in
    let b : v 17 ≡ 0 = omega (arith, h 17 (omega arith)) in
    let d : v 18 ≡ 0 = omega (arith, h 18 (omega arith)) in
    rw (byte-same (v 0) (omega (arith, h 0 (omega arith))), packed (v 0) (h 0 (omega arith)), byte-same (v 1) (omega (arith, h 1 (omega arith))), byte-same (v 2) (omega (arith, h 2 (omega arith))), byte-same (v 3) (omega (arith, h 3 (omega arith))), byte-same (v 4) (omega (arith, h 4 (omega arith))), byte-same (v 5) (omega (arith, h 5 (omega arith))), byte-same (v 6) (omega (arith, h 6 (omega arith))), byte-same (v 7) (omega (arith, h 7 (omega arith))), byte-same (v 8) (omega (arith, h 8 (omega arith))), byte-same (v 9) (omega (arith, h 9 (omega arith))), byte-same (v 10) (omega (arith, h 10 (omega arith))), half-same (v 12) (omega (arith, h 12 (omega arith))), half-same (v 13) (omega (arith, h 13 (omega arith))), a, b, d)

pub noise-again : (v : ℕ → ℕ) → Bounded v noise 19 → voice_fields (noise_by v) ≡ tab 19 v
unfolding voice_fields noise_by channel_by live_by pitch_by envelope_by ninth_of tenth_of shift_of
noise-again v h =
    let a : v 11 ≡ 0 = omega (arith, h 11 (omega arith)) in
    let d : v 18 ≡ 0 = omega (arith, h 18 (omega arith)) in
    rw (byte-same (v 0) (omega (arith, h 0 (omega arith))), packed (v 0) (h 0 (omega arith)), byte-same (v 1) (omega (arith, h 1 (omega arith))), byte-same (v 2) (omega (arith, h 2 (omega arith))), byte-same (v 3) (omega (arith, h 3 (omega arith))), byte-same (v 4) (omega (arith, h 4 (omega arith))), byte-same (v 5) (omega (arith, h 5 (omega arith))), byte-same (v 6) (omega (arith, h 6 (omega arith))), byte-same (v 7) (omega (arith, h 7 (omega arith))), byte-same (v 8) (omega (arith, h 8 (omega arith))), byte-same (v 9) (omega (arith, h 9 (omega arith))), byte-same (v 10) (omega (arith, h 10 (omega arith))), half-same (v 12) (omega (arith, h 12 (omega arith))), half-same (v 13) (omega (arith, h 13 (omega arith))), half-same (v 17) (omega (arith, h 17 (omega arith))), a, d, bit-again (v 10) (h 10 (omega arith)))
  where
    bit-again : (x : ℕ) → x ≤ 1 → bit_of (eqb x 1) ≡ x
    bit-again x l = eqb-true _ _ (at (λ (x : ℕ). eqb (bit_of (eqb x 1)) x) 2 x refl (omega arith))

pub tail-again : (bank position : ℕ) (v : ℕ → ℕ) → Bounded v tail_cells 13 → tail_fields (Swept bank position (sweep_by v)) (v 10) (byte (v 11)) ≡ tab 13 v
unfolding tail_fields sweep_by
tail-again bank position v h =
    let a : v 6 ≡ 0 = omega (arith, h 6 (omega arith)) in
    let d : v 12 ≡ 0 = omega (arith, h 12 (omega arith)) in
    rw (byte-same (v 0) (omega (arith, h 0 (omega arith))), packed (v 0) (h 0 (omega arith)), byte-same (v 1) (omega (arith, h 1 (omega arith))), byte-same (v 2) (omega (arith, h 2 (omega arith))), byte-same (v 3) (omega (arith, h 3 (omega arith))), byte-same (v 5) (omega (arith, h 5 (omega arith))), half-same (v 7) (omega (arith, h 7 (omega arith))), half-same (v 8) (omega (arith, h 8 (omega arith))), half-same (v 9) (omega (arith, h 9 (omega arith))), byte-same (v 11) (omega (arith, h 11 (omega arith))), a, d)

tab-same : (n : ℕ) {v w : ℕ → ℕ} → ((j : ℕ) → v j ≡ w j) → tab n v ≡ tab n w
tab-same zero h = refl
tab-same (suc n) {v} {w} h = rw (h 0, tab-same n {v = λ j. v (suc j)} {w = λ j. w (suc j)} (λ j. h (suc j)))

window-here : (n : ℕ) (l : List ℕ) → n ≤ length l → take n l ≡ tab n (λ j. get_or l j 0)
window-here zero l h = refl
window-here (suc n) [] h = absurd (omega arith)
window-here (suc n) (x ∷ l) h = ap (λ (r : List ℕ). x ∷ r) (window-here n l (omega arith))

-- the values from a field on
pub window : (n at : ℕ) (f : List ℕ) → at + n ≤ length f → take n (drop at f) ≡ tab n (from f at)
window n at f h = window-here n (drop at f) (omega (arith, length-drop at f)) ∙ tab-same n (λ j. get_or-drop at f j 0)

-- what keeps the rules of a list, at each place

abbrev pub no_rule : Rule
no_rule = (0, None)

pub kept_at : (shift : ℕ) (cs : List Rule) (xs : List ℕ) (j : ℕ) → keep shift cs xs ≡ true → j < length cs → j < length xs → faulty_in shift (get_or cs j no_rule) (get_or xs j 0) ≡ false
kept_at shift [] xs j h l g = absurd (omega arith)
kept_at shift (c ∷ cs) [] j h l g = absurd (omega arith)
kept_at shift (c ∷ cs) (x ∷ xs) zero h l g = each (not (faulty_in shift c x)) (keep shift cs xs ∷ []) h (λ k. not-true _ k.0)
kept_at shift (c ∷ cs) (x ∷ xs) (suc j) h l g = each (not (faulty_in shift c x)) (keep shift cs xs ∷ []) h (λ k. kept_at shift cs xs j k.1.0 (omega arith) (omega arith))

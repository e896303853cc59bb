-- The values of a state in range: none is at fault, each has room in its field, and the state that they make is that state.
use Rattle.std.specs.Prelude.{◌≡◌, ℕ, zero, suc, ◌+◌, ◌-◌, ◌%◌, ◌^◌, ◌<◌, ◌≤◌, Bool, true, false, not, ◌&&◌, eqb, ltb, leb, List, [], ◌∷◌, ◌++◌, map, length, get_or, take, drop, replicate, ℤ, pos, negsuc}
use mathlib.Core.Path.{refl, sym, ap, ◌∙◌, fun_ext}
use mathlib.Core.Bool.{beq}
use mathlib.Core.List.{append-nil}
use native.Mathlib.Nat.{le_trans, lt_of_le_of_lt}
use native.Mathlib.Omega.{arith}
use borrow.Author.Tests.{eqb-true, leb-true, le-leb, le-ltb, lt-ltb, ltb-true}
use lib.ListN.{length-append, length-map}
use lib.Seq.{sets, drop_at, drop-drop, get_or-drop, take_at}
use lib.Signed.{mag}
use Rattle.laws.proofs.Cases.{both, each}
use Rattle.common.specs.Bits.{signed}
use Rattle.little.specs.Little.{size_of}
use Rattle.common.specs.declared.channel.Channel.{Channel}
use Rattle.sweep.specs.declared.sweep_modulate.SweepModulate.{SweepModulate}
use Rattle.common.specs.Channel.{channel_in_range}
use Rattle.sweep.specs.SweepModulate.{sweep_in_range}
use Rattle.voice.specs.ChannelEnum.{is_tap, noise_in_range, swept_in_range, voice_of, wave_in_range, wave_kind_in_range, swept_kind_in_range, noise_kind_in_range}
use Rattle.voice.specs.declared.channel_enum.Kind.{Kind}
use Rattle.voice.specs.declared.channel_enum.Kind.TheVariants.{Wave, Swept, Noise}
use Rattle.voice.specs.declared.channel_enum.Voice.{Voice}
use Rattle.vsu.proofs.RangeLaws.{InRange}
use Rattle.vsu.specs.Core.{all_at_most, all_bytes, voice_at}
use Rattle.vsu.specs.declared.unit.Vsu.{Vsu}
use Rattle.table.proofs.TableLaws.{at, below, code, same-own}
use Rattle.table.specs.Table.{broken_by, cell_at, faulty_at, field_faulty, number2, header, most_in, newest, own_of, part_in, part_of, row_in}
use Rattle.table.specs.declared.Cell.{Cell}
use Rattle.table.specs.declared.Own.TheVariants.{None, Exactly}
use Rattle.fields.specs.Fields.{blocks_of, byte_of, entry_by, fields_of, from, header_fields, noise_by, shift_of, state_of, sweep_by, swept_by, tail_fields, voice_fields, voices_by, wave_by}
use Rattle.fields.proofs.AcceptedLaws.{block-then, most-at, none_then, samples-again}
use Rattle.fields.proofs.BlockLaws.{Rule, byte-same, faulty_in, keep, keep-noise, keep-swept, keep-tail, keep-wave, kept_at, no_kind, no_rule, noise-back, noise_rules, plainly, sweep-back, swept-back, tail_cells, tap-most, wave-back, wave_rules}
use Rattle.fields.proofs.FieldsLaws.{blocks-length, sets-all}
use Rattle.little.proofs.LittleLaws.{sets-append}

-- values part by part

keep_append : (shift : ℕ) (cs ds : List Rule) (xs ys : List ℕ) → length cs ≡ length xs → keep shift cs xs ≡ true → keep shift ds ys ≡ true → keep shift (cs ++ ds) (xs ++ ys) ≡ true
keep_append shift [] ds [] ys e p q = q
keep_append shift [] ds (x ∷ xs) ys e p q = absurd (omega (arith, e))
keep_append shift (c ∷ cs) ds [] ys e p q = absurd (omega (arith, e))
keep_append shift (c ∷ cs) ds (x ∷ xs) ys e p q =
    each (not (faulty_in shift c x)) (keep shift cs xs ∷ []) p (λ k. both k.0 (keep_append shift cs ds xs ys (omega (arith, e)) k.1.0 q))

record Kept (shift : ℕ) (cs : List Rule) (xs : List ℕ) : Type 0 where
  pub same : length cs ≡ length xs
  pub test : keep shift cs xs ≡ true

then : {shift : ℕ} {cs ds : List Rule} {xs ys : List ℕ} → Kept shift cs xs → Kept shift ds ys → Kept shift (cs ++ ds) (xs ++ ys)
then {shift} {cs} {ds} {xs} {ys} p q =
    record {
      same = length-append cs ds ∙ rw (p.same, q.same) (sym (length-append xs ys));
      test = keep_append shift cs ds xs ys p.same p.test q.test;
    }

keep_run : (shift most n : ℕ) (xs : List ℕ) → length xs ≡ n → all_at_most most xs ≡ true → keep shift (replicate n (most, None)) xs ≡ true
unfolding all_at_most broken_by
keep_run shift most zero xs e h = refl
keep_run shift most (suc n) [] e h = refl
keep_run shift most (suc n) (x ∷ xs) e h =
    each (leb x most) (all_at_most most xs ∷ []) h (λ k. rw (le-ltb most x (leb-true _ _ k.0)) (keep_run shift most n xs (omega (arith, e)) k.1.0))

-- a modulation entry's byte, and the entry that it makes

entry-most : (z : ℤ) → mag z ≤ 127 → byte_of z ≤ 255
unfolding byte_of
entry-most (pos e) h = omega (arith, h)
entry-most (negsuc e) h = omega arith

entry-back : (z : ℤ) → mag z ≤ 127 → signed (byte_of z) ≡ z
unfolding byte_of signed
entry-back (pos e) h = rw (lt-ltb e 128 (omega (arith, h)))
entry-back (negsuc e) h = rw (le-ltb (255 - e) 128 (omega (arith, h))) (ap negsuc (omega (arith, h)))

entries-most : (zs : List ℤ) → all_bytes zs ≡ true → all_at_most 255 (map byte_of zs) ≡ true
unfolding all_at_most
entries-most [] h = refl
entries-most (z ∷ zs) h =
    each (leb (mag z) 127) (all_bytes zs ∷ []) h (λ k. both (le-leb _ _ (entry-most z (leb-true _ _ k.0))) (entries-most zs k.1.0))

entries-back : (zs : List ℤ) → all_bytes zs ≡ true → map entry_by (map byte_of zs) ≡ zs
unfolding all_at_most
entries-back [] h = refl
entries-back (z ∷ zs) h =
    each (leb (mag z) 127) (all_bytes zs ∷ []) h (λ k. rw (byte-same (byte_of z) (entry-most z (leb-true _ _ k.0)), entry-back z (leb-true _ _ k.0), entries-back zs k.1.0))

-- six voices

six-list : (vs : List Voice) → length vs ≡ 6 → vs ≡ voice_at 0 vs ∷ voice_at 1 vs ∷ voice_at 2 vs ∷ voice_at 3 vs ∷ voice_at 4 vs ∷ voice_at 5 vs ∷ []
six-list (a ∷ b ∷ c ∷ d ∷ e ∷ g ∷ []) h = refl
six-list [] h = absurd (omega (arith, h))
six-list (a ∷ []) h = absurd (omega (arith, h))
six-list (a ∷ b ∷ []) h = absurd (omega (arith, h))
six-list (a ∷ b ∷ c ∷ []) h = absurd (omega (arith, h))
six-list (a ∷ b ∷ c ∷ d ∷ []) h = absurd (omega (arith, h))
six-list (a ∷ b ∷ c ∷ d ∷ e ∷ []) h = absurd (omega (arith, h))
six-list (a ∷ b ∷ c ∷ d ∷ e ∷ g ∷ x ∷ xs) h = absurd (omega (arith, h))

-- the table's rules one after the other, and one test that the rows' are those

abbrev header_rules : List Rule
header_rules = map (λ (c : Cell). (most_in c, Exactly)) (number2 ++ header)

abbrev all_rules : List Rule
all_rules =
    header_rules ++ (replicate 160 (63, None) ++ (replicate 32 (255, None) ++ (wave_rules ++ (wave_rules ++ (wave_rules ++ (wave_rules ++ (wave_rules ++ (noise_rules ++ plainly tail_cells))))))))

abbrev same_rule : ℕ → Bool
same_rule i = eqb (newest.rows i).most (get_or all_rules i no_rule).0 && eqb (code (newest.rows i).own) (code (get_or all_rules i no_rule).1)

every-rule : below same_rule 326 ≡ true
unfolding row_in part_of part_in cell_at own_of
every-rule = refl

row-rule : (i shift x : ℕ) → i < 326 → field_faulty shift (newest.rows i) x ≡ faulty_in shift (get_or all_rules i no_rule) x
unfolding field_faulty
row-rule i shift x h =
    each (eqb (newest.rows i).most (get_or all_rules i no_rule).0) (eqb (code (newest.rows i).own) (code (get_or all_rules i no_rule).1) ∷ []) (at same_rule 326 i every-rule h)
    (λ k.
    let m : (newest.rows i).most ≡ (get_or all_rules i no_rule).0 = eqb-true _ _ k.0 in
    let o : (newest.rows i).own ≡ (get_or all_rules i no_rule).1 = same-own _ _ k.1.0 in
    rw (m, o))

-- a voice in its range has its kind, and its values make it again

wave-made : (c : Channel) (k : Kind) (rest : List ℕ) → wave_in_range (voice_of c k) ≡ true → wave_by (λ j. get_or (voice_fields (voice_of c k) ++ rest) j 0) ≡ voice_of c k
unfolding wave_in_range wave_kind_in_range
wave-made c (Wave bank position) rest h =
    each (channel_in_range 3 c) ((leb bank 7 && leb position 31) ∷ []) h
    (λ r. each (leb bank 7) (leb position 31 ∷ []) r.1.0
    (λ b. wave-back c (Wave bank position) rest 3 r.0 bank position (le_trans (leb-true _ _ b.0) (omega arith)) (le_trans (leb-true _ _ b.1.0) (omega arith)) refl))
wave-made c (Swept bank position s) rest h = no_kind 0 c 3 h
wave-made c (Noise shift tap output) rest h = no_kind 0 c 3 h

noise-made : (c : Channel) (k : Kind) (rest : List ℕ) → noise_in_range (voice_of c k) ≡ true → noise_by (λ j. get_or (voice_fields (voice_of c k) ++ rest) j 0) ≡ voice_of c k
unfolding noise_in_range noise_kind_in_range
noise-made c (Wave bank position) rest h = no_kind 0 c 39 h
noise-made c (Swept bank position s) rest h = no_kind 0 c 39 h
noise-made c (Noise shift tap output) rest h =
    each (channel_in_range 39 c) ((leb shift 32767 && is_tap tap && beq output (eqb (shift % 2) 1)) ∷ []) h
    (λ r. each (leb shift 32767) (is_tap tap ∷ beq output (eqb (shift % 2) 1) ∷ []) r.1.0
    (λ b. noise-back c (Noise shift tap output) rest 39 r.0 shift tap output (le_trans (leb-true _ _ b.0) (omega arith)) (le_trans (tap-most tap b.1.0) (omega arith)) refl))

swept-made : (c : Channel) (k : Kind) (rest : List ℕ) (g : ℕ → ℕ) → swept_in_range (voice_of c k) ≡ true → ((bank position : ℕ) (s : SweepModulate) → k ≡ Swept bank position s → sweep_in_range s ≡ true → sweep_by g ≡ s) → swept_by (λ j. get_or (voice_fields (voice_of c k) ++ rest) j 0) g ≡ voice_of c k
unfolding swept_in_range swept_kind_in_range
swept-made c (Wave bank position) rest g h e = no_kind 0 c 3 h
swept-made c (Swept bank position s) rest g h e =
    each (channel_in_range 3 c) ((leb bank 7 && leb position 31 && sweep_in_range s) ∷ []) h
    (λ r. each (leb bank 7) (leb position 31 ∷ sweep_in_range s ∷ []) r.1.0
    (λ b. swept-back c (Swept bank position s) rest 3 r.0 bank position s g (le_trans (leb-true _ _ b.0) (omega arith)) (le_trans (leb-true _ _ b.1.0) (omega arith)) refl (e bank position s refl b.1.1.0)))
swept-made c (Noise shift tap output) rest g h e = no_kind 0 c 3 h

-- what the code lays out, one part after the other, is the list of values

tail-length : (k : Kind) (o m : ℕ) → length (tail_fields k o m) ≡ 13
unfolding tail_fields
tail-length (Wave b p) o m = refl
tail-length (Swept b p s) o m = refl
tail-length (Noise s t b) o m = refl

module _ (u : Vsu) (w : length u.waves ≡ 160) (m : length u.modulation ≡ 32) (n : length u.voices ≡ 6) where
  abbrev entries_of : List ℕ
  entries_of = map byte_of u.modulation

  abbrev tail_of : List ℕ
  tail_of = tail_fields (voice_at 4 u.voices).kind u.output u.mutes

  six-length : length (blocks_of u.voices) ≡ 114
  six-length = omega (arith, blocks-length u.voices, n)

  all-length : length (fields_of newest u) ≡ 326
  unfolding fields_of
  all-length =
      rw (length-append u.waves (entries_of ++ (blocks_of u.voices ++ tail_of)), length-append entries_of (blocks_of u.voices ++ tail_of), length-append (blocks_of u.voices) tail_of, length-map u.modulation byte_of, six-length, tail-length (voice_at 4 u.voices).kind u.output u.mutes, w, m)

  pub all_laid : (l : List ℕ) {f₁ f₂ f₃ f₄ f₅ t : List ℕ} {muted : ℕ} → length l ≡ 326 → f₁ ≡ sets l 0 (header_fields newest) → f₂ ≡ sets f₁ 7 u.waves → f₃ ≡ sets f₂ 167 entries_of → f₄ ≡ sets f₃ 199 (blocks_of u.voices) → muted ≡ u.mutes → t ≡ tail_fields (voice_at 4 u.voices).kind u.output muted → f₅ ≡ sets f₄ 313 t → f₅ ≡ fields_of newest u
  unfolding fields_of
  all_laid l z a b c d o e g =
      rw (g, e, o, d, c, b, a)
      (sets-append (sets (sets (sets l 0 (header_fields newest)) 7 u.waves) 167 entries_of) 199 (blocks_of u.voices) tail_of (omega (arith, six-length))
      ∙ sets-append (sets (sets l 0 (header_fields newest)) 7 u.waves) 167 entries_of (blocks_of u.voices ++ tail_of) (omega (arith, length-map u.modulation byte_of, m))
      ∙ sets-append (sets l 0 (header_fields newest)) 7 u.waves (entries_of ++ (blocks_of u.voices ++ tail_of)) (omega (arith, w))
      ∙ sets-append l 0 (header_fields newest) (u.waves ++ (entries_of ++ (blocks_of u.voices ++ tail_of))) refl
      ∙ sets-all l (fields_of newest u) (z ∙ sym all-length))

-- The values of a state in range.

module _ (u : Vsu) (r : InRange u) where
  abbrev v : ℕ → Voice
  v k = voice_at k u.voices

  abbrev noise_shift : ℕ
  noise_shift = shift_of (v 5).kind

  abbrev tail : List ℕ
  tail = tail_fields (v 4).kind u.output u.mutes

  abbrev rest4 : List ℕ
  rest4 = voice_fields (v 5) ++ tail

  abbrev rest3 : List ℕ
  rest3 = voice_fields (v 4) ++ rest4

  abbrev rest2 : List ℕ
  rest2 = voice_fields (v 3) ++ rest3

  abbrev rest1 : List ℕ
  rest1 = voice_fields (v 2) ++ rest2

  abbrev rest0 : List ℕ
  rest0 = voice_fields (v 1) ++ rest1

  abbrev blocks : List ℕ
  blocks = voice_fields (v 0) ++ rest0

  abbrev entries : List ℕ
  entries = map byte_of u.modulation

  six-blocks : blocks_of u.voices ++ tail ≡ blocks
  six-blocks =
      ap (λ (vs : List Voice). blocks_of vs ++ tail) (six-list u.voices r.voices.six)
      ∙ rw (block-then (v 0) (v 1 ∷ v 2 ∷ v 3 ∷ v 4 ∷ v 5 ∷ []), block-then (v 1) (v 2 ∷ v 3 ∷ v 4 ∷ v 5 ∷ []), block-then (v 2) (v 3 ∷ v 4 ∷ v 5 ∷ []), block-then (v 3) (v 4 ∷ v 5 ∷ []), block-then (v 4) (v 5 ∷ []), block-then (v 5) [], none_then)

  abbrev laid : List ℕ
  laid = header_fields newest ++ (u.waves ++ (entries ++ blocks))

  pub laid_out : fields_of newest u ≡ laid
  unfolding fields_of
  laid_out = rw six-blocks

  pub fields-length : length (fields_of newest u) ≡ 326
  fields-length = all-length u r.waves r.entries r.voices.six

  -- what follows each part

  after-header : drop 7 (fields_of newest u) ≡ u.waves ++ (entries ++ blocks)
  after-header = rw laid_out

  after-waves : drop 167 (fields_of newest u) ≡ entries ++ blocks
  after-waves = sym (drop-drop 160 7 (fields_of newest u)) ∙ ap (drop 160) after-header ∙ drop_at u.waves (entries ++ blocks) 160 r.waves

  after-entries : drop 199 (fields_of newest u) ≡ blocks
  after-entries =
      sym (drop-drop 32 167 (fields_of newest u)) ∙ ap (drop 32) after-waves ∙ drop_at entries blocks 32 (length-map u.modulation byte_of ∙ r.entries)

  after : (n : ℕ) {at₀ : ℕ} → 199 + n ≡ at₀ → drop at₀ (fields_of newest u) ≡ drop n blocks
  after n e = rw (← e) (sym (drop-drop n 199 (fields_of newest u)) ∙ ap (drop n) after-entries)

  values : (n : ℕ) {at₀ : ℕ} → 199 + n ≡ at₀ → from (fields_of newest u) at₀ ≡ (λ j. get_or (drop n blocks) j 0)
  values n {at₀} e = fun_ext (λ j. sym (get_or-drop at₀ (fields_of newest u) j 0) ∙ ap (λ (l : List ℕ). get_or l j 0) (after n e))

  shift-there : get_or (fields_of newest u) 311 0 ≡ noise_shift
  unfolding voice_fields
  shift-there = ap (λ (g : ℕ → ℕ). g 17) (values 95 {at₀ = 294} refl)

  -- no value is at fault

  part : {cs : List Rule} (xs : List ℕ) → length cs ≡ length xs → keep noise_shift cs xs ≡ true → Kept noise_shift cs xs
  part xs e h = record { same = e; test = h }

  entries-length : length entries ≡ 32
  entries-length = length-map u.modulation byte_of ∙ r.entries

  kept : Kept noise_shift all_rules laid
  unfolding voice_fields broken_by row_in part_of part_in cell_at
  kept =
      then (part {cs = header_rules} (header_fields newest) refl refl)
      (then (part {cs = replicate 160 (63, None)} u.waves (sym r.waves) (keep_run noise_shift 63 160 u.waves r.waves r.small))
      (then (part {cs = replicate 32 (255, None)} entries (sym entries-length) (keep_run noise_shift 255 32 entries entries-length (entries-most u.modulation r.bytes)))
      (then (part {cs = wave_rules} (voice_fields (v 0)) refl (keep-wave noise_shift (v 0).channel (v 0).kind r.voices.first))
      (then (part {cs = wave_rules} (voice_fields (v 1)) refl (keep-wave noise_shift (v 1).channel (v 1).kind r.voices.second))
      (then (part {cs = wave_rules} (voice_fields (v 2)) refl (keep-wave noise_shift (v 2).channel (v 2).kind r.voices.third))
      (then (part {cs = wave_rules} (voice_fields (v 3)) refl (keep-wave noise_shift (v 3).channel (v 3).kind r.voices.fourth))
      (then (part {cs = wave_rules} (voice_fields (v 4)) refl (keep-swept noise_shift (v 4).channel (v 4).kind r.voices.fifth))
      (then (part {cs = noise_rules} (voice_fields (v 5)) refl (keep-noise noise_shift (v 5).channel (v 5).kind r.voices.sixth refl))
      (part {cs = plainly tail_cells} tail (sym (tail-length (v 4).kind u.output u.mutes)) (keep-tail noise_shift (v 4).channel (v 4).kind u.output u.mutes r.voices.fifth r.output r.mutes))))))))))

  pub none-at-fault : (i : ℕ) → i < 326 → faulty_at newest (fields_of newest u) i ≡ false
  none-at-fault i h =
      row-rule i (get_or (fields_of newest u) 311 0) (get_or (fields_of newest u) i 0) h
      ∙ rw (shift-there, laid_out) (kept_at noise_shift all_rules laid i kept.test h (omega (arith, h, kept.same)))

  -- every value has room in its field: one test of the table

  abbrev roomy : ℕ → Bool
  roomy i = ltb (newest.rows i).most (256 ^ size_of (newest.rows i).width)

  every-roomy : below roomy 326 ≡ true
  unfolding row_in part_of part_in cell_at
  every-roomy = refl

  pub fits : (i : ℕ) → i < 326 → get_or (fields_of newest u) i 0 < 256 ^ size_of (newest.rows i).width
  fits i h = lt_of_le_of_lt (most-at (fields_of newest u) fields-length none-at-fault i h) (ltb-true _ _ (at roomy 326 i every-roomy h))

  -- the state of its values

  made : (make : (ℕ → ℕ) → Voice) (w : Voice) (n : ℕ) {at₀ : ℕ} → 199 + n ≡ at₀ → make (λ j. get_or (drop n blocks) j 0) ≡ w → make (from (fields_of newest u) at₀) ≡ w
  made make w n e p = ap make (values n e) ∙ p

  abbrev sweep_values : ℕ → ℕ
  sweep_values = from (fields_of newest u) 313

  same-sweep : (bank position : ℕ) (s : SweepModulate) → (v 4).kind ≡ Swept bank position s → sweep_in_range s ≡ true → sweep_by sweep_values ≡ s
  unfolding voice_fields
  same-sweep bank position s e h =
      ap sweep_by (values 114 {at₀ = 313} refl) ∙ rw (← append-nil tail, e) (sweep-back bank position s u.output u.mutes [] h)

  same-fifth : swept_by (from (fields_of newest u) 275) sweep_values ≡ v 4
  unfolding voice_fields
  same-fifth =
      made (λ g. swept_by g sweep_values) (v 4) 76 {at₀ = 275} refl
      (swept-made (v 4).channel (v 4).kind rest4 sweep_values r.voices.fifth same-sweep)

  same-voices : voices_by (fields_of newest u) ≡ u.voices
  unfolding voices_by voice_fields
  same-voices =
      let a : wave_by (from (fields_of newest u) 199) ≡ v 0 = made wave_by (v 0) 0 refl (wave-made (v 0).channel (v 0).kind rest0 r.voices.first) in
      let b : wave_by (from (fields_of newest u) 218) ≡ v 1 = made wave_by (v 1) 19 refl (wave-made (v 1).channel (v 1).kind rest1 r.voices.second) in
      let c : wave_by (from (fields_of newest u) 237) ≡ v 2 = made wave_by (v 2) 38 refl (wave-made (v 2).channel (v 2).kind rest2 r.voices.third) in
      let d : wave_by (from (fields_of newest u) 256) ≡ v 3 = made wave_by (v 3) 57 refl (wave-made (v 3).channel (v 3).kind rest3 r.voices.fourth) in
      let e : noise_by (from (fields_of newest u) 294) ≡ v 5 = made noise_by (v 5) 95 refl (noise-made (v 5).channel (v 5).kind tail r.voices.sixth) in
      rw (a, b, c, d, same-fifth, e) (sym (six-list u.voices r.voices.six))

  tail-output : (k : Kind) (o m : ℕ) → get_or (tail_fields k o m) 10 0 ≡ o
  unfolding tail_fields
  tail-output (Wave b p) o m = refl
  tail-output (Swept b p s) o m = refl
  tail-output (Noise s t b) o m = refl

  tail-mutes : (k : Kind) (o m : ℕ) → get_or (tail_fields k o m) 11 0 ≡ m
  unfolding tail_fields
  tail-mutes (Wave b p) o m = refl
  tail-mutes (Swept b p s) o m = refl
  tail-mutes (Noise s t b) o m = refl

  output-there : get_or (fields_of newest u) 323 0 ≡ u.output
  unfolding voice_fields
  output-there = ap (λ (g : ℕ → ℕ). g 10) (values 114 {at₀ = 313} refl) ∙ tail-output (v 4).kind u.output u.mutes

  mutes-there : get_or (fields_of newest u) 324 0 ≡ u.mutes
  unfolding voice_fields
  mutes-there = ap (λ (g : ℕ → ℕ). g 11) (values 114 {at₀ = 313} refl) ∙ tail-mutes (v 4).kind u.output u.mutes

  pub state-back : state_of (fields_of newest u) ≡ u
  unfolding state_of
  state-back =
      let w : take 160 (drop 7 (fields_of newest u)) ≡ u.waves = ap (take 160) after-header ∙ take_at u.waves (entries ++ blocks) 160 r.waves in
      let m : take 32 (drop 167 (fields_of newest u)) ≡ entries = ap (take 32) after-waves ∙ take_at entries blocks 32 entries-length in
      let o : get_or (fields_of newest u) 323 0 ≡ u.output = output-there in
      let q : get_or (fields_of newest u) 324 0 ≡ u.mutes = mutes-there in
      rw (same-voices, w, m, o, q, byte-same u.mutes (le_trans r.mutes (omega arith)), samples-again u.waves r.small, entries-back u.modulation r.bytes)

-- An accepted image: its state is in range, and has the same values again.
use Rattle.std.specs.Prelude.{◌≡◌, ℕ, suc, ◌+◌, ◌%◌, ◌<◌, ◌≤◌, Bool, true, false, eqb, ltb, leb, List, [], ◌∷◌, ◌++◌, map, length, get_or, take, drop, ℤ}
use mathlib.Core.Path.{refl, sym, ap, ◌∙◌}
use mathlib.Core.List.{append_assoc}
use native.Mathlib.Nat.{le_of_eq, le_trans, mod-le, mod-lt}
use native.Mathlib.Omega.{arith}
use borrow.Author.Tests.{eqb-true, leb-true, le-leb, ltb-false, ltb-true, not-false}
use lib.ListN.{length-drop, length-map}
use lib.Seq.{get_or-drop, get_or-take, length-take-le, take-add, take_all}
use lib.Signed.{mag}
use Rattle.laws.proofs.Cases.{both, each, ways}
use Rattle.common.specs.Bits.{signed}
use Rattle.voice.specs.ChannelEnum.{is_tap}
use Rattle.voice.specs.declared.channel_enum.Voice.{Voice}
use Rattle.vsu.proofs.RangeLaws.{range-test}
use Rattle.vsu.specs.Core.{all_at_most, all_bytes, in_range}
use Rattle.table.proofs.TableLaws.{at, at_most, below, exactly, own-kept}
use Rattle.table.specs.Table.{broken_by, cell_at, faulty_at, most_in, newest, no_cell, noise, own_of, part_in, part_of, row_in, wave}
use Rattle.table.specs.declared.Cell.{Cell}
use Rattle.table.specs.declared.Own.TheVariants.{Exactly}
use Rattle.fields.specs.Fields.{blocks_of, byte, byte_of, entry_by, fields_of, from, header_fields, noise_by, state_of, swept_by, tail_fields, voice_fields, voices_by, wave_by}
use Rattle.fields.proofs.BlockLaws.{Bounded, byte-same, noise-again, noise-range, swept-again, swept-range, tab, tail-again, tail_cells, wave-again, wave-range, window}

-- largest values of a list, one by one

pub all_most : (most : ℕ) (xs : List ℕ) → ((i : ℕ) → i < length xs → get_or xs i 0 ≤ most) → all_at_most most xs ≡ true
unfolding all_at_most
all_most most [] h = refl
all_most most (x ∷ xs) h = both (le-leb _ _ (h 0 (omega arith))) (all_most most xs (λ i g. h (suc i) (omega arith)))

-- a byte as a modulation entry, and the entry's byte

signed-most : (b : ℕ) → b ≤ 255 → mag (signed b) ≤ 127
unfolding signed
signed-most b h = ways (λ (z : ℤ). mag z ≤ 127) (ltb b 128) (λ t. omega (arith, ltb-true b 128 t)) (λ t. omega (arith, ltb-false b 128 t))

entry-again : (b : ℕ) → b ≤ 255 → byte_of (signed b) ≡ b
unfolding signed byte_of
entry-again b h = ways (λ (z : ℤ). byte_of z ≡ b) (ltb b 128) (λ t. refl) (λ t. omega (arith, ltb-false b 128 t))

entries-most : (xs : List ℕ) → all_bytes (map entry_by xs) ≡ true
unfolding all_at_most
entries-most [] = refl
entries-most (x ∷ xs) = both (le-leb _ _ (signed-most (byte x) (omega (arith, mod-lt x {m = 256} (omega arith))))) (entries-most xs)

entries-again : (xs : List ℕ) → all_at_most 255 xs ≡ true → map byte_of (map entry_by xs) ≡ xs
unfolding all_at_most
entries-again [] h = refl
entries-again (x ∷ xs) h =
    each (leb x 255) (all_at_most 255 xs ∷ []) h
    (λ k. rw (byte-same x (leb-true _ _ k.0), entry-again x (leb-true _ _ k.0), entries-again xs k.1.0))

-- a sample's byte

samples-most : (most : ℕ) (xs : List ℕ) → all_at_most most xs ≡ true → all_at_most most (map byte xs) ≡ true
unfolding all_at_most
samples-most most [] h = refl
samples-most most (x ∷ xs) h =
    each (leb x most) (all_at_most most xs ∷ []) h (λ k. both (le-leb _ _ (le_trans (mod-le x 256) (leb-true _ _ k.0))) (samples-most most xs k.1.0))

pub samples-again : (xs : List ℕ) → all_at_most 63 xs ≡ true → map byte xs ≡ xs
unfolding all_at_most
samples-again [] h = refl
samples-again (x ∷ xs) h =
    each (leb x 63) (all_at_most 63 xs ∷ []) h (λ k. rw (byte-same x (le_trans (leb-true _ _ k.0) (omega arith)), samples-again xs k.1.0))

-- blocks one after the other

pub block-then : (v : Voice) (vs : List Voice) (t : List ℕ) → blocks_of (v ∷ vs) ++ t ≡ voice_fields v ++ (blocks_of vs ++ t)
unfolding blocks_of
block-then v vs t = append_assoc (voice_fields v) (blocks_of vs) t

pub none_then : (t : List ℕ) → blocks_of [] ++ t ≡ t
unfolding blocks_of
none_then t = refl

-- the table's largest values from a field on, as one test

abbrev most_from : ℕ → List Cell → ℕ → Bool
most_from at cells j = eqb (newest.rows (at + j)).most (most_in (get_or cells j no_cell))

module _ (f : List ℕ) (n : length f ≡ 326) (s : (i : ℕ) → i < 326 → faulty_at newest f i ≡ false) where
  pub most-at : (i : ℕ) → i < 326 → get_or f i 0 ≤ (newest.rows i).most
  most-at i h = at_most (get_or f 311 0) (newest.rows i) (get_or f i 0) (s i h)

  own_at : (i : ℕ) → i < 326 → broken_by (newest.rows i).own (newest.rows i).most (get_or f 311 0) (get_or f i 0) ≡ false
  own_at i h = own-kept (get_or f 311 0) (newest.rows i) (get_or f i 0) (s i h)

  bounds : (at₀ count : ℕ) (cells : List Cell) → at₀ + count ≤ 326 → below (most_from at₀ cells) count ≡ true → Bounded (from f at₀) cells count
  bounds at₀ count cells h t j l = le_trans (most-at (at₀ + j) (omega arith)) (le_of_eq (eqb-true _ _ (at (most_from at₀ cells) count j t l)))

  -- a run of fields whose largest value is the same
  run-most : (at₀ count most : ℕ) → at₀ + count ≤ 326 → below (λ j. leb (newest.rows (at₀ + j)).most most) count ≡ true → all_at_most most (take count (drop at₀ f)) ≡ true
  run-most at₀ count most h t =
      all_most most (take count (drop at₀ f))
      (λ i g.
      let l : i < count = omega (arith, g, length-take-le count (drop at₀ f) (omega (arith, length-drop at₀ f, n))) in
      rw (get_or-take count (drop at₀ f) i 0 l, get_or-drop at₀ f i 0)
      (le_trans (most-at (at₀ + i) (omega arith)) (leb-true _ _ (at (λ j. leb (newest.rows (at₀ + j)).most most) count i t l))))

  module _ where
    wave-0 : Bounded (from f 199) wave 19
    unfolding row_in part_of part_in cell_at
    wave-0 = bounds 199 19 wave (omega arith) refl

    wave-1 : Bounded (from f 218) wave 19
    unfolding row_in part_of part_in cell_at
    wave-1 = bounds 218 19 wave (omega arith) refl

    wave-2 : Bounded (from f 237) wave 19
    unfolding row_in part_of part_in cell_at
    wave-2 = bounds 237 19 wave (omega arith) refl

    wave-3 : Bounded (from f 256) wave 19
    unfolding row_in part_of part_in cell_at
    wave-3 = bounds 256 19 wave (omega arith) refl

    swept-4 : Bounded (from f 275) wave 19
    unfolding row_in part_of part_in cell_at
    swept-4 = bounds 275 19 wave (omega arith) refl

    noise-5 : Bounded (from f 294) noise 19
    unfolding row_in part_of part_in cell_at
    noise-5 = bounds 294 19 noise (omega arith) refl

    tail : Bounded (from f 313) tail_cells 13
    unfolding row_in part_of part_in cell_at
    tail = bounds 313 13 tail_cells (omega arith) refl

    samples : all_at_most 63 (take 160 (drop 7 f)) ≡ true
    unfolding row_in part_of part_in cell_at
    samples = run-most 7 160 63 (omega arith) refl

    entries : all_at_most 255 (take 32 (drop 167 f)) ≡ true
    unfolding row_in part_of part_in cell_at
    entries = run-most 167 32 255 (omega arith) refl

    -- "tap one of the eight"
    tapped : is_tap (from f 294 9) ≡ true
    unfolding row_in part_of part_in cell_at own_of broken_by
    tapped = not-false _ (own_at 303 (omega arith))

    -- "noise output = lowest bit of shift"
    lowest : from f 294 10 ≡ from f 294 17 % 2
    unfolding row_in part_of part_in cell_at own_of broken_by
    lowest = eqb-true _ _ (not-false _ (own_at 304 (omega arith)))

  -- every accepted image is a state in range
  pub range-of-values : in_range (state_of f) ≡ true
  unfolding state_of voices_by
  range-of-values =
      range-test (state_of f)
      (record {
        voices = record {
          six = refl;
          first = wave-range (from f 199) wave-0;
          second = wave-range (from f 218) wave-1;
          third = wave-range (from f 237) wave-2;
          fourth = wave-range (from f 256) wave-3;
          fifth = swept-range (from f 275) (from f 313) swept-4 tail;
          sixth = noise-range (from f 294) noise-5 tapped lowest;
        };
        waves = length-map (take 160 (drop 7 f)) byte ∙ length-take-le 160 (drop 7 f) (omega (arith, length-drop 7 f, n));
        small = samples-most 63 (take 160 (drop 7 f)) samples;
        entries = length-map (take 32 (drop 167 f)) entry_by ∙ length-take-le 32 (drop 167 f) (omega (arith, length-drop 167 f, n));
        bytes = entries-most (take 32 (drop 167 f));
        output = tail 10 (omega arith);
        mutes = le_trans (mod-le (from f 313 11) 256) (tail 11 (omega arith));
      })

  -- the header's numbers
  exact-at : (i : ℕ) → i < 326 → (newest.rows i).own ≡ Exactly → get_or f i 0 ≡ (newest.rows i).most
  exact-at i h e = exactly (get_or f 311 0) (newest.rows i) (get_or f i 0) e (s i h)

  header-again : header_fields newest ≡ tab 7 (from f 0)
  unfolding row_in part_of part_in cell_at own_of
  header-again =
      rw (exact-at 0 (omega arith) refl, exact-at 1 (omega arith) refl, exact-at 2 (omega arith) refl, exact-at 3 (omega arith) refl, exact-at 4 (omega arith) refl, exact-at 5 (omega arith) refl, exact-at 6 (omega arith) refl)

  -- the values of the state that values make are those values

  joined : (a m : ℕ) (rest : List ℕ) {k : ℕ} → a + m ≡ k → take a f ++ (take m (drop a f) ++ rest) ≡ take k f ++ rest
  joined a m rest e = rw (← e, take-add a m f, append_assoc (take a f) (take m (drop a f)) rest)

  block : (at₀ m : ℕ) {xs : List ℕ} → at₀ + m ≤ 326 → xs ≡ tab m (from f at₀) → xs ≡ take m (drop at₀ f)
  block at₀ m h e = e ∙ sym (window m at₀ f (omega (arith, n)))

  tail-same : tail_fields (swept_by (from f 275) (from f 313)).kind (get_or f 323 0) (byte (get_or f 324 0)) ≡ tab 13 (from f 313)
  unfolding swept_by
  tail-same = tail-again (byte (from f 275 9)) (byte (from f 275 10)) (from f 313) tail

  abbrev rest : List ℕ
  rest =
      take 160 (drop 7 f) ++ (take 32 (drop 167 f) ++ (take 19 (drop 199 f) ++ (take 19 (drop 218 f) ++ (take 19 (drop 237 f) ++ (take 19 (drop 256 f) ++ (take 19 (drop 275 f) ++ (take 19 (drop 294 f) ++ take 13 (drop 313 f))))))))

  assembled : take 7 f ++ rest ≡ f
  assembled =
      joined 7 160 _ refl ∙ joined 167 32 _ refl ∙ joined 199 19 _ refl ∙ joined 218 19 _ refl ∙ joined 237 19 _ refl ∙ joined 256 19 _ refl ∙ joined 275 19 _ refl ∙ joined 294 19 _ refl ∙ sym (take-add 313 13 f) ∙ take_all 326 f (omega (arith, n))

  pub fields-again : fields_of newest (state_of f) ≡ f
  unfolding fields_of state_of voices_by
  fields-again =
      rw
      (block-then (wave_by (from f 199)) (wave_by (from f 218) ∷ wave_by (from f 237) ∷ wave_by (from f 256) ∷ swept_by (from f 275) (from f 313) ∷ noise_by (from f 294) ∷ []), block-then (wave_by (from f 218)) (wave_by (from f 237) ∷ wave_by (from f 256) ∷ swept_by (from f 275) (from f 313) ∷ noise_by (from f 294) ∷ []), block-then (wave_by (from f 237)) (wave_by (from f 256) ∷ swept_by (from f 275) (from f 313) ∷ noise_by (from f 294) ∷ []), block-then (wave_by (from f 256)) (swept_by (from f 275) (from f 313) ∷ noise_by (from f 294) ∷ []), block-then (swept_by (from f 275) (from f 313)) (noise_by (from f 294) ∷ []), block-then (noise_by (from f 294)) [], none_then, samples-again (take 160 (drop 7 f)) samples, entries-again (take 32 (drop 167 f)) entries, block 199 19 (omega arith) (wave-again (from f 199) wave-0), block 218 19 (omega arith) (wave-again (from f 218) wave-1), block 237 19 (omega arith) (wave-again (from f 237) wave-2), block 256 19 (omega arith) (wave-again (from f 256) wave-3), block 275 19 (omega arith) (swept-again (from f 275) (from f 313) swept-4), block 294 19 (omega arith) (noise-again (from f 294) noise-5), block 313 13 (omega arith) tail-same)
      (ap (λ (h : List ℕ). h ++ rest) (block 0 7 (omega arith) header-again) ∙ assembled)

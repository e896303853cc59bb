-- The image both ways: a state in range written as an image reads back equal; an accepted image is a state in range and writes back,
-- by the newest edition, to the same bytes but for the edition's number; a refused one's number and offset are the lowest fault's.
use Rattle.std.specs.Prelude.{◌≡◌, ℕ, zero, suc, ◌+◌, ◌-◌, ◌*◌, ◌^◌, ◌<◌, ◌≤◌, Bool, true, false, cond, not, ◌&&◌, eqb, ltb, leb, List, [], ◌∷◌, ◌++◌, length, get_or, take, drop, set, Ok, Err}
use Prim.Native.Nat.{suc-le-suc}
use mathlib.Core.Path.{refl, sym, ap, subst, ◌∙◌}
use mathlib.Core.Bool.{true≢false}
use native.Mathlib.Omega.{arith}
use borrow.Author.Tests.{eq-eqb, eqb-false, eqb-true, leb-false, leb-true, lt-ltb, ltb-true, ne_eqb, not-false}
use lib.ListN.{take-append-drop, length-set, get_or-eq_default}
use lib.Seq.{drop-set-lt, ext_get_or, get_or-set_other, get_or-set_same, set-get_or, take_all}
use Rattle.refusal.proofs.RefusalLaws as order
use Rattle.refusal.specs.Refusal.{answer_number, carried_of, fault, number_of, Answer}
use Rattle.refusal.specs.declared.Refusal.{Refusal}
use Rattle.refusal.specs.declared.Refusal.TheVariants.{ImageField, ImageHeader, ImageSize}
use Rattle.fields.proofs.EditionLaws.{fields-least, renewed, renewed-again, renewed-at, renewed-first, renewed-length, renewed-range}
use Rattle.fields.proofs.WrittenLaws.{fields-length, fits, none-at-fault, state-back}
use Rattle.fields.specs.Fields.{byte, fields_of, header_fields, state_of}
use Rattle.laws.proofs.Cases.{each, ways}
use Rattle.little.proofs.LittleLaws.{number-one, number-two}
use Rattle.little.specs.Little.{bytes, front, number, size_of}
use Rattle.table.proofs.TableLaws.{Laid, at, at_most, below, code, exact-kept, exactly, newest-laid, same-own, table-laid}
use Rattle.table.specs.Table.{Edition, cell_at, faulty_at, field_count, image1, known_edition, newest, own_of, part_in, part_of, row_in}
use Rattle.table.specs.declared.Known.{Known}
use Rattle.table.specs.declared.Known.TheVariants.{First, Second}
use Rattle.table.specs.declared.Own.TheVariants.{Exactly}
use Rattle.vsu.proofs.RangeLaws.{range-facts, small_at}
use Rattle.vsu.specs.Core.{all_at_most, in_range}
use Rattle.vsu.specs.declared.unit.Vsu.{Vsu}
use Rattle.image.specs.Image.{bytes_of, edition_answer, edition_in, fields_answer, fields_in, image_of, known_in, loaded_by, read_answer, read_of, refusal_at}
use Rattle.image.proofs.ImageLaws.{FirstFault, all_sound, bytes-of-values, bytes_same, first-fault, image-length, none-faulty, number_in, rows-rise, value-at, values_length, values-of-bytes}

-- "420 bytes"
pub image-420 : (u : Vsu) → length (image_of newest u) ≡ 420
unfolding image_of
image-420 u = image-length newest-laid (fields_of newest u) newest.fields (omega arith) ∙ newest-laid.whole

-- the answer of one edition: 9 for bytes of another size, else by the fields

module _ (e : Edition) (b : List ℕ) where
  pub unsized : (length b ≡ e.size → ⊥) → edition_answer e b ≡ Err ImageSize
  unfolding edition_answer
  unsized n = order.ends _ (order.at-fault {t = not (eqb (length b) e.size)} ImageSize (rw (ne_eqb _ _ n)))

  pub sized : length b ≡ e.size → edition_answer e b ≡ fields_answer e (fields_in e b) e.fields 0
  unfolding edition_answer
  sized n = order.on _ (order.sound {t = not (eqb (length b) e.size)} ImageSize (rw (eq-eqb _ _ n)))

  module _ (a : edition_answer e b ≡ Ok tt) where
    both : (fault (not (eqb (length b) e.size)) ImageSize ≡ Ok tt) × (fields_answer e (fields_in e b) e.fields 0 ≡ Ok tt)
    unfolding edition_answer
    both = order.both-on _ _ a

    size : length b ≡ e.size
    size = eqb-true _ _ (not-false _ (order.was-sound (not (eqb (length b) e.size)) ImageSize both.0))

    sound : (i : ℕ) → i < e.fields → faulty_at e (fields_in e b) i ≡ false
    sound = all_sound e (fields_in e b) e.fields both.1

-- a state written as an image reads back equal

module _ (u : Vsu) (h : in_range u ≡ true) where
  fields_back : fields_in newest (image_of newest u) ≡ fields_of newest u
  unfolding image_of
  fields_back = values-of-bytes newest-laid (fields_of newest u) (fits u (range-facts u h)) (fields-length u (range-facts u h))

  image-accepted : edition_answer newest (image_of newest u) ≡ Ok tt
  image-accepted =
      sized newest (image_of newest u) (image-420 u)
      ∙ rw fields_back (none-faulty newest (fields_of newest u) newest.fields (none-at-fault u (range-facts u h)))

  number-there : number 2 (image_of newest u) 0 ≡ 2
  unfolding row_in part_of part_in cell_at fields_of
  number-there = sym (value-at newest (image_of newest u) newest.fields 0 (omega arith)) ∙ ap (λ (f : List ℕ). get_or f 0 0) fields_back

  image-known : known_in (image_of newest u) ≡ Second
  unfolding known_in
  image-known = rw number-there

  pub reads-back : read_of (image_of newest u) ≡ record { state = u; answer = Ok tt }
  unfolding read_of read_answer loaded_by
  reads-back = rw (image-known, image-accepted, fields_back, state-back u (range-facts u h))

-- Where an edition's fields lie as the newest's do, after its number; edition 1 has one zero where the newest has two fields. One test
-- of each.

abbrev alike : Known → ℕ
alike First = 323
alike Second = 325

abbrev placed : Known → ℕ → Bool
placed k i =
    eqb ((known_edition k).rows (suc i)).offset (newest.rows (suc i)).offset && eqb (size_of ((known_edition k).rows (suc i)).width) (size_of (newest.rows (suc i)).width) && leb 1 (newest.rows (suc i)).offset

every-placed : (k : Known) → below (placed k) (alike k) ≡ true
unfolding row_in part_of part_in cell_at
every-placed First = refl
every-placed Second = refl

low-number : (k : Known) → ((known_edition k).rows 0).most ≤ 255
unfolding row_in part_of part_in cell_at
low-number First = omega arith
low-number Second = omega arith

alike-fields : (k : Known) → suc (alike k) ≤ field_count k
alike-fields First = omega arith
alike-fields Second = omega arith

number-value : (k : Known) (b : List ℕ) → get_or (fields_in (known_edition k) b) 0 0 ≡ number 2 b 0
unfolding row_in part_of part_in cell_at
number-value First b = value-at (known_edition First) b (field_count First) 0 (omega arith)
number-value Second b = value-at (known_edition Second) b (field_count Second) 0 (omega arith)

-- an image's bytes with the newest's number, and the newest's fields in them

module _ (b : List ℕ) where
  abbrev renumbered : List ℕ
  renumbered = set b 0 2

  abbrev here : ℕ → ℕ
  here i = number (size_of (newest.rows i).width) renumbered (newest.rows i).offset

  other : (i : ℕ) → 1 ≤ i → get_or renumbered i 0 ≡ get_or b i 0
  other i h = get_or-set_other b 0 i 2 0 (λ e. omega (arith, e, h))

-- an accepted image, of whatever edition

module _ (k : Known) (b : List ℕ) (a : edition_answer (known_edition k) b ≡ Ok tt) where
  abbrev values : List ℕ
  values = fields_in (known_edition k) b

  count : length values ≡ field_count k
  count = values_length (known_edition k) b (field_count k)

  kept : (i : ℕ) → i < field_count k → faulty_at (known_edition k) values i ≡ false
  kept = sound (known_edition k) b a

  in-range : in_range (state_of values) ≡ true
  in-range = renewed-range k values count kept

  value : (i : ℕ) → i < field_count k → get_or values i 0 ≡ number (size_of ((known_edition k).rows i).width) b ((known_edition k).rows i).offset
  value i h = value-at (known_edition k) b (field_count k) i h

  most : (i : ℕ) → i < field_count k → get_or values i 0 ≤ ((known_edition k).rows i).most
  most i h = at_most _ ((known_edition k).rows i) (get_or values i 0) (kept i h)

  number-low : get_or b 1 0 ≡ 0
  number-low = omega (arith, low-number k, most 0 (omega (arith, alike-fields k)), number-value k b, number-two b 0)

  here-first : here b 0 ≡ (newest.rows 0).most
  unfolding row_in part_of part_in cell_at
  here-first = omega (arith, number-two (renumbered b) 0, get_or-set_same b 0 2 0 (omega (arith, size (known_edition k) b a)), other b 1 (omega arith), number-low)

  here-alike : (i : ℕ) → i < alike k → here b (suc i) ≡ get_or values (suc i) 0
  here-alike i h =
      each (eqb ((known_edition k).rows (suc i)).offset (newest.rows (suc i)).offset) (eqb (size_of ((known_edition k).rows (suc i)).width) (size_of (newest.rows (suc i)).width) ∷ leb 1 (newest.rows (suc i)).offset ∷ []) (at (placed k) (alike k) i (every-placed k) h)
      (λ t.
      ap (front (size_of (newest.rows (suc i)).width)) (drop-set-lt (newest.rows (suc i)).offset b 0 2 (leb-true _ _ t.1.1.0))
      ∙ rw (← eqb-true ((known_edition k).rows (suc i)).offset (newest.rows (suc i)).offset t.0, ← eqb-true (size_of ((known_edition k).rows (suc i)).width) (size_of (newest.rows (suc i)).width) t.1.0)
      (sym (value (suc i) (omega (arith, alike-fields k)))))

-- edition 1: "u16 zero at 418"
module _ (b : List ℕ) (a : edition_answer image1 b ≡ Ok tt) where
  zero-value : get_or (values First b a) 324 0 ≡ 0
  unfolding row_in part_of part_in cell_at
  zero-value = omega (arith, most First b a 324 (omega arith))

  zero-bytes : get_or b 418 0 + 256 * get_or b 419 0 ≡ 0
  unfolding row_in part_of part_in cell_at
  zero-bytes = sym (number-two b 418) ∙ sym (value First b a 324 (omega arith)) ∙ zero-value

  here-324 : here b 324 ≡ get_or (values First b a) 324 0
  unfolding row_in part_of part_in cell_at
  here-324 = omega (arith, number-one (renumbered b) 418, other b 418 (omega arith), zero-bytes, zero-value)

  here-325 : here b 325 ≡ get_or (values First b a) 325 0
  unfolding row_in part_of part_in cell_at
  here-325 = omega (arith, number-one (renumbered b) 419, other b 419 (omega arith), zero-bytes, get_or-eq_default (values First b a) 0 {n = 325} (omega (arith, count First b a)))

here-past : (k : Known) (b : List ℕ) (a : edition_answer (known_edition k) b ≡ Ok tt) (i : ℕ) → alike k ≤ i → i < 325 → here b (suc i) ≡ get_or (values k b a) (suc i) 0
here-past First b a i h l = go (eqb i 323) refl
  where
    go : (t : Bool) → eqb i 323 ≡ t → here b (suc i) ≡ get_or (values First b a) (suc i) 0
    go true e = rw (eqb-true i 323 e) (here-324 b a)
    go false e = let q : i ≡ 324 = omega (arith, eqb-false i 323 e) in rw q (here-325 b a)
here-past Second b a i h l = absurd (omega arith)

module _ (k : Known) (b : List ℕ) (a : edition_answer (known_edition k) b ≡ Ok tt) where
  abbrev renewal : List ℕ
  renewal = renewed k (values k b a)

  here-renewed : (i : ℕ) → i < 326 → here b i ≡ get_or renewal i 0
  here-renewed zero h = here-first k b a ∙ sym (renewed-first k (values k b a) (count k b a))
  here-renewed (suc i) h = go (leb (alike k) i) refl ∙ sym (renewed-at k (values k b a) (count k b a) (suc i) (omega arith))
    where
      go : (t : Bool) → leb (alike k) i ≡ t → here b (suc i) ≡ get_or (values k b a) (suc i) 0
      go true e = here-past k b a i (leb-true _ _ e) (omega arith)
      go false e = here-alike k b a i (leb-false _ _ e)

  fields-renewed : fields_in newest (renumbered b) ≡ renewal
  fields-renewed =
      let n : length (fields_in newest (renumbered b)) ≡ newest.fields = values_length newest (renumbered b) newest.fields in
      ext_get_or 0 _ renewal (n ∙ sym (renewed-length k (values k b a) (count k b a)))
      (λ i h. let l : i < newest.fields = omega (arith, h, n) in
      value-at newest (renumbered b) newest.fields i l ∙ here-renewed i l)

  small-there : all_at_most 255 b ≡ true → (i : ℕ) → i < length (renumbered b) → get_or (renumbered b) i 0 < 256
  small-there small zero h = omega (arith, get_or-set_same b 0 2 0 (omega (arith, size (known_edition k) b a)))
  small-there small (suc i) h = rw (other b (suc i) (omega arith)) (suc-le-suc (small_at 255 b small (suc i)))

  writes-renewed : all_at_most 255 b ≡ true → image_of newest (state_of (values k b a)) ≡ renumbered b
  unfolding image_of
  writes-renewed small =
      let n : length (renumbered b) ≡ (newest.rows newest.fields).offset = length-set b 0 2 ∙ size (known_edition k) b a ∙ sym newest-laid.whole in
      ap (λ (f : List ℕ). bytes_of newest f newest.fields) (renewed-again k (values k b a) (count k b a) (kept k b a) ∙ sym fields-renewed)
      ∙ bytes-of-values newest-laid (renumbered b) (small-there small) (omega (arith, n)) newest.fields (omega arith)
      ∙ take_all (newest.rows newest.fields).offset (renumbered b) (omega (arith, n))

  number-exact : ((known_edition k).rows 0).own ≡ Exactly → number 2 b 0 ≡ ((known_edition k).rows 0).most
  number-exact o = sym (number-value k b) ∙ exactly _ ((known_edition k).rows 0) (get_or (values k b a) 0 0) o (kept k b a 0 (omega (arith, alike-fields k)))

same_number : (b : List ℕ) → edition_answer newest b ≡ Ok tt → renumbered b ≡ b
unfolding row_in part_of part_in cell_at own_of
same_number b a =
    let q : get_or b 0 0 ≡ 2 = omega (arith, number-exact Second b a refl, number-two b 0, number-low Second b a) in
    rw (← q) (set-get_or b 0 0)

module _ (b : List ℕ) (a : read_answer b ≡ Ok tt) where
  accepted : edition_answer (edition_in b) b ≡ Ok tt
  unfolding read_answer
  accepted = a

  accepted-as : {k : Known} → known_in b ≡ k → edition_answer (known_edition k) b ≡ Ok tt
  accepted-as e = subst (λ (k : Known). edition_answer (known_edition k) b ≡ Ok tt) e accepted

  read-state : (read_of b).state ≡ state_of (fields_in (edition_in b) b)
  unfolding read_of loaded_by
  read-state = rw a

  -- every accepted image is a state in range
  pub accepted-in-range : in_range (read_of b).state ≡ true
  accepted-in-range = rw read-state (in-range (known_in b) b accepted)

  -- an accepted image writes back as edition 2, with every byte after the edition's number the same
  pub writes-newest : all_at_most 255 b ≡ true → image_of newest (read_of b).state ≡ set b 0 2
  writes-newest small = ap (image_of newest) read-state ∙ writes-renewed (known_in b) b accepted small

  -- so one of edition 1
  pub writes-back-1 : known_in b ≡ First → all_at_most 255 b ≡ true → image_of newest (read_of b).state ≡ set b 0 2
  writes-back-1 _ small = writes-newest small

  -- one of edition 2 to the same bytes
  pub writes-back : known_in b ≡ Second → all_at_most 255 b ≡ true → image_of newest (read_of b).state ≡ b
  writes-back e small = writes-newest small ∙ same_number b (accepted-as e)

  -- what is written back reads as the same state
  pub reads-again : read_of (image_of newest (read_of b).state) ≡ record { state = (read_of b).state; answer = Ok tt }
  reads-again = reads-back (read_of b).state accepted-in-range

  -- 02 (v): "edition 1 is still read, as nothing muted"
  pub muted-from-1 : known_in b ≡ First → (read_of b).state.mutes ≡ 0
  unfolding state_of
  muted-from-1 e =
      ap (λ (u : Vsu). u.mutes) (read-state ∙ ap (λ (k : Known). state_of (fields_in (known_edition k) b)) e)
      ∙ ap byte (zero-value b (accepted-as e))

-- a refused image of 420 bytes: the offset told is that of a field at fault, and no field below it is

pub record Lowest (e : Edition) (f : List ℕ) (k : ℕ) : Type 0 where
  pub field : k < e.fields
  pub fault : faulty_at e f k ≡ true
  pub lower : (j : ℕ) → j < e.fields → (e.rows j).offset < (e.rows k).offset → faulty_at e f j ≡ false

abbrev pub Blame : Edition → List ℕ → Refusal → Type 0
Blame e f why = (k : ℕ) × (Lowest e f k × (why ≡ refusal_at (e.rows k).offset))

module _ {e : Edition} (laid : Laid e) where
  up : (k j : ℕ) → j < e.fields → k ≤ j → (e.rows k).offset ≤ (e.rows j).offset
  up k j h g =
      let q : k + (j - k) ≡ j = omega arith in
      subst (λ (m : ℕ). (e.rows k).offset ≤ (e.rows m).offset) q (rows-rise laid (j - k) k (omega arith))

  lowest : (f : List ℕ) (k : ℕ) (why : Refusal) → FirstFault e f e.fields 0 k why → Lowest e f k
  lowest f k why w =
      record {
        field = omega (arith, w.before);
        fault = w.fault;
        lower = λ j h l. w.sound j (omega arith) (before j h l);
      }
    where
      before : (j : ℕ) → j < e.fields → (e.rows j).offset < (e.rows k).offset → j < k
      before j h l = go (leb k j) refl
        where
          go : (t : Bool) → leb k j ≡ t → j < k
          go true q = absurd (omega (arith, l, up k j h (leb-true k j q)))
          go false q = leb-false k j q

  blame : (b : List ℕ) → length b ≡ e.size → (why : Refusal) → edition_answer e b ≡ Err why → Blame e (fields_in e b) why
  blame b n why q =
      let w = first-fault e (fields_in e b) e.fields 0 why (sym (sized e b n) ∙ q) in
      (w.0, (lowest (fields_in e b) w.0 why w.1, w.1.told))

-- 10 and 11 by the offset
told-field : (p o : ℕ) → ImageField o ≡ refusal_at p → p ≡ o
told-field p o q = go (ltb p 16) q
  where
    go : (t : Bool) → ImageField o ≡ cond t ImageHeader (ImageField p) → p ≡ o
    go true e = absurd (let z : ◌≡◌ {A = ℕ} 11 10 = ap number_of e in omega arith)
    go false e = sym (ap carried_of e)

told-header : (p : ℕ) → ImageHeader ≡ refusal_at p → p < 16
told-header p q = go (ltb p 16) refl q
  where
    go : (t : Bool) → ltb p 16 ≡ t → ImageHeader ≡ cond t ImageHeader (ImageField p) → p < 16
    go true e q = ltb-true p 16 e
    go false e q = absurd (let z : ◌≡◌ {A = ℕ} 10 11 = ap number_of q in omega arith)

told-other : (p : ℕ) → number_of (refusal_at p) ≡ 9 → ⊥
told-other p = ways (λ (r : Refusal). number_of r ≡ 9 → ⊥) (ltb p 16) (λ _ q. omega (arith, q)) (λ _ q. omega (arith, q))

module _ (b : List ℕ) (n : length b ≡ 420) where
  abbrev f : List ℕ
  f = fields_in (edition_in b) b

  pub blamed : (why : Refusal) → read_answer b ≡ Err why → Blame (edition_in b) f why
  unfolding read_answer
  blamed why e = blame (table-laid (known_in b)) b n why e

  -- 11, "carries the lowest such offset"
  pub field-blamed : (o : ℕ) → read_answer b ≡ Err (ImageField o) → (k : ℕ) × (Lowest (edition_in b) f k × (((edition_in b).rows k).offset ≡ o))
  field-blamed o e = let w = blamed (ImageField o) e in (w.0, (w.1.0, told-field ((edition_in b).rows w.0).offset o w.1.1))

  -- bytes of an image's size are never refused by 9
  pub not-9 : answer_number (read_answer b) ≡ 9 → ⊥
  not-9 e = go (read_answer b) refl e
    where
      go : (a : Answer) → read_answer b ≡ a → answer_number a ≡ 9 → ⊥
      go (Ok done) q z = omega (arith, z)
      go (Err why) q z = let w = blamed why q in told-other ((edition_in b).rows w.0).offset (ap number_of (sym w.1.1) ∙ z)

-- 10, "header differs": given exactly when the bytes are 420 and the first 16 of them are no edition's

abbrev pub header_bytes : Edition → List ℕ
header_bytes e = bytes_of e (header_fields e) 7

pub record HeaderDiffers (b : List ℕ) : Type 0 where
  pub size : length b ≡ newest.size
  pub differs : (k : Known) → take 16 b ≡ header_bytes (known_edition k) → ⊥

-- the header's rows: one test of each edition

abbrev headed : Known → ℕ → Bool
headed k i =
    eqb ((known_edition k).rows i).most (get_or (header_fields (known_edition k)) i 0) && eqb (code ((known_edition k).rows i).own) (code Exactly) && ltb ((known_edition k).rows i).offset 16

every-headed : (k : Known) → below (headed k) 7 ≡ true
unfolding row_in part_of part_in cell_at own_of
every-headed First = refl
every-headed Second = refl

record Head (k : Known) (i : ℕ) : Type 0 where
  pub most : ((known_edition k).rows i).most ≡ get_or (header_fields (known_edition k)) i 0
  pub own : ((known_edition k).rows i).own ≡ Exactly
  pub early : ((known_edition k).rows i).offset < 16

head : (k : Known) (i : ℕ) → i < 7 → Head k i
head k i h =
    each (eqb ((known_edition k).rows i).most (get_or (header_fields (known_edition k)) i 0)) (eqb (code ((known_edition k).rows i).own) (code Exactly) ∷ ltb ((known_edition k).rows i).offset 16 ∷ []) (at (headed k) 7 i (every-headed k) h)
    (λ t. record { most = eqb-true _ _ t.0; own = same-own _ _ t.1.0; early = ltb-true _ _ t.1.1.0 })

abbrev roomy : Known → ℕ → Bool
roomy k i = ltb (get_or (header_fields (known_edition k)) i 0) (256 ^ size_of ((known_edition k).rows i).width)

every-roomy : (k : Known) → below (roomy k) (field_count k) ≡ true
unfolding row_in part_of part_in cell_at
every-roomy First = refl
every-roomy Second = refl

seventh : (k : Known) → ((known_edition k).rows 7).offset ≡ 16
unfolding row_in part_of part_in cell_at
seventh First = refl
seventh Second = refl

many : (k : Known) → 7 ≤ field_count k
many k = omega (arith, fields-least k)

module _ (k : Known) (b : List ℕ) (n : length b ≡ newest.size) (small : all_at_most 255 b ≡ true) where
  abbrev e : Edition
  e = known_edition k

  abbrev held : List ℕ
  held = fields_in e b

  header-same : ((i : ℕ) → i < 7 → faulty_at e held i ≡ false) → take 16 b ≡ header_bytes e
  header-same s =
      rw (← seventh k)
      (sym (bytes-of-values (table-laid k) b (λ i _. suc-le-suc (small_at 255 b small i)) (omega (arith, (table-laid k).whole, n)) 7 (many k))
      ∙ bytes_same e held (header_fields e) 7 (λ i h. exactly _ (e.rows i) (get_or held i 0) (head k i h).own (s i h) ∙ (head k i h).most))

  header_read : take 16 b ≡ header_bytes e → (i : ℕ) → i < 7 → faulty_at e held i ≡ false
  header_read q i h =
      let whole : b ≡ header_bytes e ++ drop 16 b = sym (take-append-drop 16 b) ∙ ap (λ (l : List ℕ). l ++ drop 16 b) q in
      let v : get_or held i 0 ≡ (e.rows i).most =
      value-at e b e.fields i (omega (arith, many k))
      ∙ ap (λ (l : List ℕ). number (size_of (e.rows i).width) l (e.rows i).offset) whole
      ∙ number_in (table-laid k) (header_fields e) (λ i l. ltb-true _ _ (at (roomy k) (field_count k) i (every-roomy k) l)) 7 i (drop 16 b) (many k) h
      ∙ sym (head k i h).most in
      rw v (exact-kept (get_or held e.shift 0) (e.rows i) (head k i h).own)

  -- the header is the fields below offset 16
  low : (i : ℕ) → i < e.fields → (e.rows i).offset < 16 → i < 7
  low i h l = go (leb 7 i) refl
    where
      go : (t : Bool) → leb 7 i ≡ t → i < 7
      go true q = absurd (omega (arith, l, seventh k, up (table-laid k) 7 i h (leb-true 7 i q)))
      go false q = leb-false 7 i q

  header-differs : edition_answer e b ≡ Err ImageHeader → take 16 b ≡ header_bytes e → ⊥
  header-differs a q =
      let w = blame (table-laid k) b n ImageHeader a in
      true≢false (sym w.1.0.fault ∙ header_read q w.0 (low w.0 w.1.0.field (told-header (e.rows w.0).offset w.1.1)))

  header-told : (take 16 b ≡ header_bytes e → ⊥) → edition_answer e b ≡ Err ImageHeader
  header-told d = go (edition_answer e b) refl
    where
      go : (a : Answer) → edition_answer e b ≡ a → edition_answer e b ≡ Err ImageHeader
      go (Ok done) q = absurd (d (header-same (λ i h. sound e b q i (omega (arith, many k)))))
      go (Err why) q = ending (blame (table-laid k) b n why q)
        where
          ending : Blame e held why → edition_answer e b ≡ Err ImageHeader
          ending w = here (leb 7 w.0) refl
            where
              here : (t : Bool) → leb 7 w.0 ≡ t → edition_answer e b ≡ Err ImageHeader
              here true g =
                  absurd (d (header-same (λ i h. w.1.0.lower i (omega (arith, many k)) (omega (arith, (head k i h).early, seventh k, up (table-laid k) 7 w.0 w.1.0.field (leb-true 7 w.0 g))))))
              here false g = q ∙ ap Err (w.1.1 ∙ rw (lt-ltb _ _ (head k w.0 (leb-false 7 w.0 g)).early))

-- the header tells its edition

header-number : (k : Known) (b : List ℕ) → take 16 b ≡ header_bytes (known_edition k) → number 2 b 0 ≡ ((known_edition k).rows 0).most
unfolding bytes_of bytes front row_in part_of part_in cell_at
header-number First b q = ap (front 2) (sym (take-append-drop 16 b) ∙ ap (λ (l : List ℕ). l ++ drop 16 b) q)
header-number Second b q = ap (front 2) (sym (take-append-drop 16 b) ∙ ap (λ (l : List ℕ). l ++ drop 16 b) q)

header-known : (k : Known) (b : List ℕ) → take 16 b ≡ header_bytes (known_edition k) → known_in b ≡ k
unfolding known_in row_in part_of part_in cell_at
header-known First b q = rw (header-number First b q)
header-known Second b q = rw (header-number Second b q)

module _ (b : List ℕ) (small : all_at_most 255 b ≡ true) where
  pub header_refused : read_answer b ≡ Err ImageHeader → HeaderDiffers b
  unfolding read_answer
  header_refused a = go (eqb (length b) newest.size) refl
    where
      go : (t : Bool) → eqb (length b) newest.size ≡ t → HeaderDiffers b
      go true e =
          let n : length b ≡ newest.size = eqb-true _ _ e in
          record {
            size = n;
            differs = λ k q. header-differs k b n small (subst (λ (k : Known). edition_answer (known_edition k) b ≡ Err ImageHeader) (header-known k b q) a) q;
          }
      go false e = absurd (let z : ◌≡◌ {A = ℕ} 9 10 = ap answer_number (sym (unsized (edition_in b) b (eqb-false _ _ e)) ∙ a) in omega arith)

  pub refused-header : HeaderDiffers b → read_answer b ≡ Err ImageHeader
  unfolding read_answer
  refused-header h = header-told (known_in b) b h.size small (h.differs (known_in b))

  -- 02 (v): "10 for editions other than 1 and 2"
  pub other-edition : length b ≡ newest.size → (number 2 b 0 ≡ 1 → ⊥) → (number 2 b 0 ≡ 2 → ⊥) → read_answer b ≡ Err ImageHeader
  unfolding row_in part_of part_in cell_at
  other-edition n p q = refused-header (record { size = n; differs = no })
    where
      no : (k : Known) → take 16 b ≡ header_bytes (known_edition k) → ⊥
      no First e = p (header-number First b e)
      no Second e = q (header-number Second b e)

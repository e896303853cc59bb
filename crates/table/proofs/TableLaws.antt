-- Laws of specs/Table.antt.
use Prim.Native.Nat.{ℕ, zero, suc, ◌+◌, ◌-◌, ◌*◌, ◌/◌, ◌%◌, ◌<◌, ◌≤◌}
use mathlib.Core.Path.{◌≡◌, refl, sym, ap, subst, ◌∙◌}
use mathlib.Core.Bool.{Bool, true, false, ◌&&◌}
use mathlib.Core.List.{List, [], ◌∷◌}
use native.Mathlib.Decide.{ℕ_discrete}
use native.Mathlib.Nat.{div-le_self, le_refl, le_trans, mul-le-mul}
use native.Mathlib.Numerals.{add-one}
use native.Mathlib.Omega.{arith}
use borrow.Author.Tests.{eqb-true, lt-ltb, le-ltb, leb-true, ltb-false}
use lib.Dec.{eqb, leb, ltb}
use lib.ListN.{get_or, drop, take, drop_of_length-le, length}
use lib.Seq.{drop-cons}
use Rattle.laws.proofs.Cases.{each, neither, ways}
use Rattle.little.specs.Little.{size_of}
use Rattle.table.specs.Table.{Edition, broken_by, cell_at, cell_count, cells_of, field_count, field_faulty, known_edition, first_field, made_of, most_in, newest, no_cell, no_part, offset_in, own_of, part_in, part_of, part_offset, part_size, parts_of, row_in, width_in}
use Rattle.table.specs.declared.Block.{Block}
use Rattle.table.specs.declared.Block.TheVariants.{Edition1, Edition2, Header, Sample, Entry, Wave, Noise, Sweep, Zero, Mutes}
use Rattle.table.specs.declared.Cell.{Cell}
use Rattle.table.specs.declared.Known.{Known}
use Rattle.table.specs.declared.Known.TheVariants.{First, Second}
use Rattle.table.specs.declared.Own.{Own}
use Rattle.table.specs.declared.Own.TheVariants.{None, Exactly, Tap, LowestBit}
use Rattle.table.specs.declared.Part.{Part}
use Rattle.table.specs.declared.Row.{Row}

-- the part that a field is in

module _ (field : ℕ) (p : Part) (qs : List Part) (k : ℕ) (h : k < length qs) where
  pub part-here : field < first_field (get_or qs k no_part) → part_in field p (drop k qs) ≡ p
  unfolding part_in
  part-here l = rw (drop-cons qs k no_part h, lt-ltb _ _ l)

  pub part-later : first_field (get_or qs k no_part) ≤ field → part_in field p (drop k qs) ≡ part_in field (get_or qs k no_part) (drop (k + 1) qs)
  unfolding part_in
  part-later l = rw (drop-cons qs k no_part h, le-ltb _ _ l, add-one k)

pub part-first : (e : Known) (field : ℕ) → part_of (parts_of e) field ≡ part_in field (get_or (parts_of e) 0 no_part) (take 7 (drop 1 (parts_of e)))
unfolding part_of
part-first First field = refl
part-first Second field = refl

pub part-last : (field : ℕ) (p : Part) (qs : List Part) (k : ℕ) {q : Part} → length qs ≤ k → q ≡ part_in field p (drop k qs) → p ≡ q
unfolding part_in
part-last field p qs k h e = sym (e ∙ rw (drop_of_length-le qs {i = k} h))

-- what the arithmetic of a row needs of its part and of its cell: one test of each table

pub record Sound (field : ℕ) (p : Part) : Type 0 where
  pub begins : first_field p ≤ field
  pub offset : part_offset p ≤ 418
  pub size : part_size p ≤ 32
  pub some : 0 < cell_count p

abbrev sound_part : Part → Bool
sound_part p =
    leb (part_offset p) 418 && leb (part_size p) 32 && leb 1 (cell_count p)

abbrev every_part : List Part → Bool
every_part [] = true
every_part (p ∷ ps) = sound_part p && every_part ps

sound : (field : ℕ) (p : Part) → first_field p ≤ field → sound_part p ≡ true → Sound field p
sound field p h t =
    each (leb (part_offset p) 418) (leb (part_size p) 32 ∷ leb 1 (cell_count p) ∷ []) t
    (λ k.
    record {
      begins = h;
      offset = leb-true _ _ k.0;
      size = leb-true _ _ k.1.0;
      some = leb-true _ _ k.1.1.0;
    })

sound-in : (field : ℕ) (p : Part) (qs : List Part) → Sound field p → every_part qs ≡ true → Sound field (part_in field p qs)
unfolding part_in
sound-in field p [] s t = s
sound-in field p (q ∷ qs) s t =
    each (sound_part q) (every_part qs ∷ []) t
    (λ k. ways (Sound field) (ltb field (first_field q)) (λ _. s) (λ l. sound-in field q qs (sound field q (ltb-false _ _ l) k.0) k.1.0))

sound-of : (e : Known) (field : ℕ) → Sound field (part_of (parts_of e) field)
unfolding part_of
sound-of First field = sound-in field _ (drop 1 (parts_of First)) (sound field _ (omega arith) refl) refl
sound-of Second field = sound-in field _ (drop 1 (parts_of Second)) (sound field _ (omega arith) refl) refl

pub part_sound : (e : Known) (field : ℕ) {p : Part} → p ≡ part_of (parts_of e) field → Sound field p
part_sound e field d = subst (Sound field) (sym d) (sound-of e field)

-- an offset in a part
abbrev low_cells : List Cell → Bool
low_cells [] = true
low_cells (c ∷ cs) = leb (offset_in c) 30 && low_cells cs

low-at : (cs : List Cell) (i : ℕ) (d : Cell) → offset_in d ≤ 30 → low_cells cs ≡ true → offset_in (get_or cs i d) ≤ 30
low-at [] i d h t = h
low-at (c ∷ cs) zero d h t = each (leb (offset_in c) 30) (low_cells cs ∷ []) t (λ k. leb-true _ _ k.0)
low-at (c ∷ cs) (suc i) d h t = each (leb (offset_in c) 30) (low_cells cs ∷ []) t (λ k. low-at cs i d h k.1.0)

low-block : (block : Block) → low_cells (cells_of block) ≡ true
low-block Edition1 = refl
low-block Edition2 = refl
low-block Header = refl
low-block Sample = refl
low-block Entry = refl
low-block Wave = refl
low-block Noise = refl
low-block Sweep = refl
low-block Zero = refl
low-block Mutes = refl

pub cell-low : (block : Block) (i : ℕ) → offset_in (get_or (cells_of block) i no_cell) ≤ 30
cell-low block i = low-at (cells_of block) i no_cell (omega arith) (low-block block)

module _ {field : ℕ} {p : Part} (s : Sound field p) (small : field < 65536) where
  abbrev within : ℕ
  within = field - first_field p

  pub repeat-fits : part_size p * (within / cell_count p) ≤ 32 * 65535
  repeat-fits =
      let h : within / cell_count p ≤ 65535 = le_trans (div-le_self within (cell_count p)) (omega arith) in mul-le-mul s.size h

  pub place-fits : part_offset p + part_size p * (within / cell_count p) ≤ 418 + 32 * 65535
  place-fits = omega (arith, repeat-fits, s.offset)

module _ (e : Known) (field : ℕ) {p : Part} (d : p ≡ part_of (parts_of e) field) where
  abbrev cell_number : ℕ
  cell_number = (field - first_field p) % cell_count p

  abbrev place : Cell
  place = get_or (cells_of (made_of p)) cell_number no_cell

  pub row_of : {o : Own} → o ≡ own_of (made_of p) cell_number → ◌≡◌ {A = Row} (record { offset = part_offset p + part_size p * ((field - first_field p) / cell_count p) + offset_in place; width = width_in place; most = most_in place; own = o }) ((known_edition e).rows field)
  unfolding row_in cell_at
  row_of g = rw (g, d)

-- a test of every number below n

abbrev pub below : (ℕ → Bool) → ℕ → Bool
below t zero = true
below t (suc n) = t n && below t n

pub at : (t : ℕ → Bool) (n i : ℕ) → below t n ≡ true → i < n → t i ≡ true
at t zero i h l = absurd (omega arith)
at t (suc n) i h l = each (t n) (below t n ∷ []) h (λ k. go (ℕ_discrete i n) k.0 (λ g. at t n i k.1.0 g))
  where
    go : Dec (i ≡ n) → t n ≡ true → (i < n → t i ≡ true) → t i ≡ true
    go (yes e) p r = rw e p
    go (no d) p r = r (omega arith)

-- own rules by number, for a computed test

abbrev pub code : Own → ℕ
code None = 0
code Exactly = 1
code Tap = 2
code LowestBit = 3

abbrev coded : ℕ → Own
coded zero = None
coded (suc zero) = Exactly
coded (suc (suc zero)) = Tap
coded (suc (suc (suc n))) = LowestBit

coded-code : (o : Own) → coded (code o) ≡ o
coded-code None = refl
coded-code Exactly = refl
coded-code Tap = refl
coded-code LowestBit = refl

pub same-own : (o p : Own) → eqb (code o) (code p) ≡ true → o ≡ p
same-own o p h = sym (coded-code o) ∙ ap coded (eqb-true (code o) (code p) h) ∙ coded-code p

-- a value that is not at fault

module _ (shift : ℕ) (r : Row) where
  pub at_most : (value : ℕ) → field_faulty shift r value ≡ false → value ≤ r.most
  unfolding field_faulty
  at_most value h = ltb-false _ _ (neither (ltb r.most value) (broken_by r.own r.most shift value) h).0

  pub own-kept : (value : ℕ) → field_faulty shift r value ≡ false → broken_by r.own r.most shift value ≡ false
  unfolding field_faulty
  own-kept value h = (neither (ltb r.most value) (broken_by r.own r.most shift value) h).1

  pub exactly : (value : ℕ) → r.own ≡ Exactly → field_faulty shift r value ≡ false → value ≡ r.most
  unfolding broken_by
  exactly value o h =
      let a : r.most ≤ value = ltb-false value r.most (rw o at (own-kept value h)) in
      omega (arith, at_most value h)

  pub exact-kept : r.own ≡ Exactly → field_faulty shift r r.most ≡ false
  unfolding field_faulty broken_by
  exact-kept o = rw (o, le-ltb r.most r.most (le_refl _))

-- no edition has more fields than the newest
pub fields-most : (k : Known) → field_count k ≤ newest.fields
fields-most First = omega arith
fields-most Second = omega arith

-- an edition's rows lie one after the other, from 0 to its size

pub record Laid (e : Edition) : Type 0 where
  pub zeroth : (e.rows 0).offset ≡ 0
  pub next : (i : ℕ) → i < e.fields → (e.rows (suc i)).offset ≡ (e.rows i).offset + size_of (e.rows i).width
  pub whole : (e.rows e.fields).offset ≡ e.size

-- the tables themselves: one test of each

abbrev next_row : Edition → ℕ → Bool
next_row e i = eqb (e.rows (suc i)).offset ((e.rows i).offset + size_of (e.rows i).width)

pub table-laid : (k : Known) → Laid (known_edition k)
unfolding row_in part_of part_in cell_at
table-laid First = record { zeroth = refl; next = λ i h. eqb-true _ _ (at (next_row (known_edition First)) 325 i refl h); whole = refl }
table-laid Second = record { zeroth = refl; next = λ i h. eqb-true _ _ (at (next_row (known_edition Second)) 326 i refl h); whole = refl }

pub newest-laid : Laid newest
newest-laid = table-laid Second

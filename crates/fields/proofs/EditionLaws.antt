-- The values of any edition as the newest's: the state that they make, its range and its values are the newest's.
use Rattle.std.specs.Prelude.{◌≡◌, ℕ, zero, suc, ◌+◌, ◌-◌, ◌<◌, ◌≤◌, Bool, true, false, ◌&&◌, ◌||◌, eqb, ltb, leb, List, [], ◌∷◌, ◌++◌, length, get_or, take, drop, set, replicate}
use mathlib.Core.Path.{refl, sym, ap, ◌∙◌, fun_ext}
use native.Mathlib.Nat.{le_trans}
use native.Mathlib.Omega.{arith}
use borrow.Author.Tests.{eqb-true, leb-true, leb-false, le-ltb, ltb-false}
use lib.ListN.{length-append, length-drop, length-replicate, length-set, get_or-eq_default}
use lib.Seq.{ext_get_or, get_or-drop, get_or-set_other, get_or-set_same, get_or-take, length-take-le}
use Rattle.laws.proofs.Cases.{each, neither}
use Rattle.table.proofs.TableLaws.{at, below, code, exact-kept, fields-most, same-own}
use Rattle.table.specs.Table.{broken_by, cell_at, faulty_at, field_count, field_faulty, known_edition, newest, own_of, part_in, part_of, row_in}
use Rattle.table.specs.declared.Known.{Known}
use Rattle.table.specs.declared.Known.TheVariants.{First, Second}
use Rattle.table.specs.declared.Own.{Own}
use Rattle.table.specs.declared.Own.TheVariants.{None, Exactly, Tap, LowestBit}
use Rattle.table.specs.declared.Row.{Row}
use Rattle.vsu.specs.Core.{in_range}
use Rattle.fields.specs.Fields.{fields_of, from, noise_by, state_of, swept_by, voices_by, wave_by}
use Rattle.fields.proofs.AcceptedLaws.{fields-again, range-of-values}
use Rattle.fields.proofs.FieldsLaws.{voices-by}

-- values that agree from the header on make the same state

module _ (f g : List ℕ) (m : 199 ≤ length f) (n : 199 ≤ length g) (same : (i : ℕ) → 7 ≤ i → get_or f i 0 ≡ get_or g i 0) where
  run-same : (at₀ count : ℕ) → 7 ≤ at₀ → at₀ + count ≤ 199 → take count (drop at₀ f) ≡ take count (drop at₀ g)
  run-same at₀ count h l =
      let a : length (take count (drop at₀ f)) ≡ count = length-take-le count (drop at₀ f) (omega (arith, length-drop at₀ f)) in
      let b : length (take count (drop at₀ g)) ≡ count = length-take-le count (drop at₀ g) (omega (arith, length-drop at₀ g)) in
      ext_get_or 0 _ _ (a ∙ sym b)
      (λ i p. let q : i < count = omega (arith, p, a) in
      rw (get_or-take count (drop at₀ f) i 0 q, get_or-take count (drop at₀ g) i 0 q, get_or-drop at₀ f i 0, get_or-drop at₀ g i 0) (same (at₀ + i) (omega arith)))

  from-same : (at₀ : ℕ) → 7 ≤ at₀ → from f at₀ ≡ from g at₀
  from-same at₀ h = fun_ext (λ j. same (at₀ + j) (omega arith))

  voices-same : voices_by f ≡ voices_by g
  unfolding voices_by
  voices-same =
      voices-by g (ap wave_by (from-same 199 (omega arith))) (ap wave_by (from-same 218 (omega arith))) (ap wave_by (from-same 237 (omega arith))) (ap wave_by (from-same 256 (omega arith)))
      (ap (λ (v : ℕ → ℕ). swept_by v (from f 313)) (from-same 275 (omega arith)) ∙ ap (swept_by (from g 275)) (from-same 313 (omega arith)))
      (ap noise_by (from-same 294 (omega arith)))

  pub state-same : state_of f ≡ state_of g
  unfolding state_of
  state-same = rw (voices-same, same 323 (omega arith), same 324 (omega arith), run-same 7 160 (omega arith) (omega arith), run-same 167 32 (omega arith) (omega arith))

-- values followed by zeros

zeros : (n i : ℕ) → ◌≡◌ {A = ℕ} (get_or (replicate n 0) i 0) 0
zeros zero i = refl
zeros (suc n) zero = refl
zeros (suc n) (suc i) = zeros n i

pub padded : (f : List ℕ) (n i : ℕ) → get_or (f ++ replicate n 0) i 0 ≡ get_or f i 0
padded [] n i = zeros n i
padded (x ∷ f) n zero = refl
padded (x ∷ f) n (suc i) = padded f n i

pub state-padded : (f : List ℕ) (n : ℕ) → 199 ≤ length f → state_of (f ++ replicate n 0) ≡ state_of f
state-padded f n h = state-same (f ++ replicate n 0) f (omega (arith, length-append f (replicate n 0))) h (λ i _. padded f n i)

-- a row takes every value that another takes

abbrev widens : Own → ℕ → ℕ → Bool
widens None a b = leb a b
widens Exactly a b = eqb a b
widens Tap a b = leb a b
widens LowestBit a b = leb a b

abbrev takes : Row → Row → Bool
takes r s = eqb (code r.own) (code s.own) && widens r.own r.most s.most

looser : (t : Bool) (a b x : ℕ) → leb a b ≡ true → (ltb a x || t) ≡ false → (ltb b x || t) ≡ false
looser t a b x w h =
    let k = neither (ltb a x) t h in
    rw (le-ltb b x (le_trans (ltb-false a x k.0) (leb-true a b w))) k.1

widened : (o : Own) (a b shift x : ℕ) → widens o a b ≡ true → (ltb a x || broken_by o a shift x) ≡ false → (ltb b x || broken_by o b shift x) ≡ false
unfolding broken_by
widened None a b shift x w h = looser _ a b x w h
widened Exactly a b shift x w h = rw (← eqb-true a b w) h
widened Tap a b shift x w h = looser _ a b x w h
widened LowestBit a b shift x w h = looser _ a b x w h

taken : (r s : Row) (shift x : ℕ) → takes r s ≡ true → field_faulty shift r x ≡ false → field_faulty shift s x ≡ false
unfolding field_faulty
taken r s shift x t h =
    each (eqb (code r.own) (code s.own)) (widens r.own r.most s.most ∷ []) t
    (λ k. rw (← same-own r.own s.own k.0) (widened r.own r.most s.most shift x k.1.0 h))

-- what each edition gives: after its number every row of the newest takes what its own take, and 0 where it has none; one test of each

abbrev taken_at : Known → ℕ → Bool
taken_at k i = takes ((known_edition k).rows (suc i)) (newest.rows (suc i))

every-taken : (k : Known) → below (taken_at k) 325 ≡ true
unfolding row_in part_of part_in cell_at own_of
every-taken First = refl
every-taken Second = refl

past : (k : Known) (shift i : ℕ) → field_count k ≤ i → i < 326 → field_faulty shift ((known_edition k).rows i) 0 ≡ false
unfolding row_in part_of part_in cell_at own_of field_faulty broken_by
past First shift i h l = let e : i ≡ 325 = omega arith in rw e
past Second shift i h l = absurd (omega arith)

number-kept : (shift : ℕ) → field_faulty shift (newest.rows 0) (newest.rows 0).most ≡ false
unfolding row_in part_of part_in cell_at own_of
number-kept shift = exact-kept shift (newest.rows 0) refl

pub fields-least : (k : Known) → 199 ≤ field_count k
fields-least First = omega arith
fields-least Second = omega arith

-- an edition's values as the newest's: the newest's number, and 0 in the fields that the edition has not
abbrev numbered : List ℕ → List ℕ
numbered f = set f 0 (newest.rows 0).most

abbrev lacks : Known → ℕ
lacks k = newest.fields - field_count k

abbrev pub renewed : Known → List ℕ → List ℕ
renewed k f = numbered f ++ replicate (lacks k) 0

module _ (k : Known) (f : List ℕ) (n : length f ≡ field_count k) where
  pub renewed-first : get_or (renewed k f) 0 0 ≡ (newest.rows 0).most
  renewed-first = padded (numbered f) (lacks k) 0 ∙ get_or-set_same f 0 (newest.rows 0).most 0 (omega (arith, n, fields-least k))

  pub renewed-at : (i : ℕ) → 1 ≤ i → get_or (renewed k f) i 0 ≡ get_or f i 0
  renewed-at i h = padded (numbered f) (lacks k) i ∙ get_or-set_other f 0 i (newest.rows 0).most 0 (λ e. omega (arith, e, h))

  pub renewed-length : length (renewed k f) ≡ newest.fields
  renewed-length =
      length-append (numbered f) _
      ∙ omega (arith, length-set f 0 (newest.rows 0).most, length-replicate {A = ℕ} (lacks k) 0, n, fields-most k)

  renewed-state : state_of (renewed k f) ≡ state_of f
  renewed-state =
      state-same (renewed k f) f (omega (arith, renewed-length)) (omega (arith, n, fields-least k)) (λ i h. renewed-at i (omega arith))

  module _ (s : (i : ℕ) → i < field_count k → faulty_at (known_edition k) f i ≡ false) where
    abbrev shift : ℕ
    shift = get_or f newest.shift 0

    -- also past its last field
    sound : (i : ℕ) → i < 326 → field_faulty shift ((known_edition k).rows i) (get_or f i 0) ≡ false
    sound i h = go (leb (field_count k) i) refl
      where
        go : (t : Bool) → leb (field_count k) i ≡ t → field_faulty shift ((known_edition k).rows i) (get_or f i 0) ≡ false
        go true e =
            let g : field_count k ≤ i = leb-true _ _ e in
            rw (get_or-eq_default f 0 {n = i} (omega (arith, n))) (past k shift i g h)
        go false e = s i (leb-false _ _ e)

    renewed-sound : (i : ℕ) → i < 326 → faulty_at newest (renewed k f) i ≡ false
    renewed-sound zero h = rw renewed-first (number-kept _)
    renewed-sound (suc i) h =
        rw (renewed-at 311 (omega arith), renewed-at (suc i) (omega arith))
        (taken ((known_edition k).rows (suc i)) (newest.rows (suc i)) shift (get_or f (suc i) 0) (at (taken_at k) 325 i (every-taken k) (omega arith)) (sound (suc i) h))

    -- every accepted image, of whatever edition, is a state in range
    pub renewed-range : in_range (state_of f) ≡ true
    renewed-range = rw (← renewed-state) (range-of-values (renewed k f) renewed-length renewed-sound)

    -- and has these values again
    pub renewed-again : fields_of newest (state_of f) ≡ renewed k f
    renewed-again = rw (← renewed-state) (fields-again (renewed k f) renewed-length renewed-sound)

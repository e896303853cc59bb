-- Laws of specs/Image.antt: a table whose rows lie one after the other, the bytes of values and the values in bytes.
use Rattle.std.specs.Prelude.{◌≡◌, ℕ, zero, suc, ◌+◌, ◌-◌, ◌^◌, ◌<◌, ◌≤◌, Bool, true, false, List, [], ◌∷◌, ◌++◌, length, get_or, take, drop, set, replicate, Ok, Err}
use mathlib.Core.Path.{refl, sym, ap, subst, ◌∙◌}
use mathlib.Core.List.{append_assoc, append-nil}
use native.Mathlib.Decide.{ℕ_discrete}
use native.Mathlib.Nat.{le_refl}
use native.Mathlib.Numerals.{add-one}
use native.Mathlib.Omega.{arith}
use lib.ListN.{length-append, length-drop, length-replicate, get_or-append}
use lib.Seq.{sets, sets-eq, get_or_at, ext_get_or, take-add, get_or-drop, drop_at}
use Rattle.laws.proofs.Cases.{ahead}
use Rattle.little.proofs.LittleLaws.{sets-append, bytes-length, front_bytes, bytes-front}
use Rattle.little.specs.Little.{bytes, front, number, size_of}
use Rattle.refusal.specs.declared.Refusal.{Refusal}
use Rattle.refusal.specs.Refusal.{Answer, fault, ◌then◌}
use Rattle.table.specs.Table.{Edition, faulty_at, field_count, field_faulty, known_edition, newest}
use Rattle.table.specs.declared.Known.{Known}
use Rattle.table.specs.declared.Row.{Row}
use Rattle.table.proofs.TableLaws.{Laid, fields-most}
use Rattle.image.specs.Image.{bytes_of, fields_answer, refusal_at, values_of}

-- what the loops go by

pub values_length : (e : Edition) (b : List ℕ) (n : ℕ) → length (values_of e b n) ≡ n
unfolding values_of
values_length e b zero = refl
values_length e b (suc n) = length-append (values_of e b n) _ ∙ ap (λ (k : ℕ). k + 1) (values_length e b n) ∙ add-one n

module _ {e : Edition} (laid : Laid e) where
  pub image-length : (f : List ℕ) (n : ℕ) → n ≤ e.fields → length (bytes_of e f n) ≡ (e.rows n).offset
  unfolding bytes_of
  image-length f zero h = sym laid.zeroth
  image-length f (suc n) h =
      length-append (bytes_of e f n) _ ∙ omega (arith, image-length f n (omega arith), bytes-length (size_of (e.rows n).width) (get_or f n 0), laid.next n (omega arith))

  pub put_step : (l f : List ℕ) (i : ℕ) {m out : List ℕ} {r : Row} {v : ℕ} → i < e.fields → r ≡ e.rows i → v ≡ get_or f i 0 → m ≡ sets l 0 (bytes_of e f i) → out ≡ sets m r.offset (bytes (size_of r.width) v) → out ≡ sets l 0 (bytes_of e f (i + 1))
  unfolding bytes_of
  put_step l f i h p q s t =
      rw (t, s, p, q, add-one i) (sets-append l 0 (bytes_of e f i) (bytes (size_of (e.rows i).width) (get_or f i 0)) (omega (arith, image-length f i (omega arith))))

drop-zeros : (m n : ℕ) → drop {A = ℕ} m (replicate n 0) ≡ replicate (n - m) 0
drop-zeros zero n = let e : n - 0 ≡ n = omega arith in rw e
drop-zeros (suc m) zero = let e : 0 - suc m ≡ 0 = omega arith in rw e
drop-zeros (suc m) (suc n) = let e : suc n - suc m ≡ n - m = omega arith in rw e (drop-zeros m n)

pub take_step : (e : Edition) (l b : List ℕ) (i : ℕ) {f : List ℕ} {r : Row} {v : ℕ} → r ≡ e.rows i → v ≡ number (size_of r.width) b r.offset → f ≡ sets l 0 (values_of e b i) → set f i v ≡ sets l 0 (values_of e b (i + 1))
unfolding values_of
take_step e l b i p q s =
    rw (s, q, p, add-one i)
    (sets-append l 0 (values_of e b i) (number (size_of (e.rows i).width) b (e.rows i).offset ∷ []) (omega (arith, values_length e b i)))

-- the values of all fields, and the zeros that are left behind them
pub take_done : (k : Known) (b : List ℕ) (i : ℕ) {f : List ℕ} → i ≤ field_count k → field_count k ≤ i → f ≡ sets (replicate newest.fields 0) 0 (values_of (known_edition k) b i) → f ≡ values_of (known_edition k) b (field_count k) ++ replicate (newest.fields - field_count k) 0
take_done k b i h g e =
    let values : List ℕ = values_of (known_edition k) b (field_count k) in
    let n : length values ≡ field_count k = values_length (known_edition k) b (field_count k) in
    let z : 0 + length values ≡ field_count k = omega (arith, n) in
    let q : i ≡ field_count k = omega arith in
    (rw q at e) ∙ sets-eq values (replicate newest.fields 0) 0 (omega (arith, n, fields-most k, length-replicate {A = ℕ} newest.fields 0))
    ∙ ap (λ (zs : List ℕ). values ++ zs) (rw z (drop-zeros (field_count k) newest.fields))

-- the lowest fault

pub fault-first : (e : Edition) (f : List ℕ) → fields_answer e f e.fields 0 ≡ fields_answer e f (e.fields - 0) 0
fault-first e f = let z : e.fields - 0 ≡ e.fields = omega arith in rw z

module _ (e : Edition) (f : List ℕ) (i : ℕ) where
  left : i < e.fields → e.fields - i ≡ suc (e.fields - (i + 1))
  left h = omega arith

  pub fault-here : {r : Row} {v : ℕ} → i < e.fields → r ≡ e.rows i → v ≡ get_or f i 0 → field_faulty (get_or f e.shift 0) r v ≡ true → fields_answer e f (e.fields - i) i ≡ Err (refusal_at r.offset)
  unfolding fields_answer fault ◌then◌
  fault-here h p q t = rw (left h, ← p, ← q, t)

  pub fault-later : {r : Row} {v : ℕ} → i < e.fields → r ≡ e.rows i → v ≡ get_or f i 0 → field_faulty (get_or f e.shift 0) r v ≡ false → fields_answer e f (e.fields - i) i ≡ fields_answer e f (e.fields - (i + 1)) (i + 1)
  unfolding fields_answer fault ◌then◌
  fault-later h p q t = rw (left h, ← p, ← q, t, add-one i)

  pub no-fault : e.fields ≤ i → fields_answer e f (e.fields - i) i ≡ Ok tt
  unfolding fields_answer fault ◌then◌
  no-fault h = let z : e.fields - i ≡ 0 = omega arith in rw z

-- values that agree have the same answer and the same bytes

module _ (e : Edition) (f g : List ℕ) where
  pub answer-same : ((i : ℕ) → get_or f i 0 ≡ get_or g i 0) → (n i : ℕ) → fields_answer e f n i ≡ fields_answer e g n i
  unfolding fields_answer
  answer-same s zero i = refl
  answer-same s (suc n) i = rw (s e.shift, s i, answer-same s n (suc i))

  pub bytes_same : (n : ℕ) → ((i : ℕ) → i < n → get_or f i 0 ≡ get_or g i 0) → bytes_of e f n ≡ bytes_of e g n
  unfolding bytes_of
  bytes_same zero s = refl
  bytes_same (suc n) s = rw (s n (omega arith), bytes_same n (λ i h. s i (omega arith)))

-- An accepted image has no field at fault; a refused one's offset is that of the first, and no lower one is at fault.

pub never : {why : Refusal} → ◌≡◌ {A = Answer} (Err why) (Ok tt) → ⊥
never e = let z : ◌≡◌ {A = ℕ} 0 1 = cc in omega arith

module _ (e : Edition) (f : List ℕ) where
  abbrev Sound : ℕ → ℕ → Type 0
  Sound n i = (j : ℕ) → i ≤ j → j < i + n → faulty_at e f j ≡ false

  sound-step : (n i : ℕ) → (fields_answer e f n (suc i) ≡ Ok tt → Sound n (suc i)) → (t : Bool) → faulty_at e f i ≡ t → (fault t (refusal_at (e.rows i).offset) then fields_answer e f n (suc i)) ≡ Ok tt → Sound (suc n) i
  unfolding fault ◌then◌
  sound-step n i r true g q = absurd (never q)
  sound-step n i r false g q = ahead (λ (j : ℕ). faulty_at e f j ≡ false) n i g (r q)

  answer-sound : (n i : ℕ) → fields_answer e f n i ≡ Ok tt → Sound n i
  unfolding fields_answer fault ◌then◌
  answer-sound zero i q = λ j h g. absurd (omega arith)
  answer-sound (suc n) i q = sound-step n i (answer-sound n (suc i)) (faulty_at e f i) refl q

  answer-none : (n i : ℕ) → Sound n i → fields_answer e f n i ≡ Ok tt
  unfolding fields_answer fault ◌then◌
  answer-none zero i s = refl
  answer-none (suc n) i s =
      let h : faulty_at e f i ≡ false = s i (omega arith) (omega arith) in
      rw h (answer-none n (suc i) (λ j p q. s j (omega arith) (omega arith)))

  -- the first field at fault
  pub record FirstFault (n i k : ℕ) (why : Refusal) : Type 0 where
    pub from : i ≤ k
    pub before : k < i + n
    pub fault : faulty_at e f k ≡ true
    pub told : why ≡ refusal_at (e.rows k).offset
    pub sound : (j : ℕ) → i ≤ j → j < k → faulty_at e f j ≡ false

  abbrev pub Some : ℕ → ℕ → Refusal → Type 0
  Some n i why = (k : ℕ) × FirstFault n i k why

  first_step : (n i : ℕ) (why : Refusal) → (fields_answer e f n (suc i) ≡ Err why → Some n (suc i) why) → (t : Bool) → faulty_at e f i ≡ t → (fault t (refusal_at (e.rows i).offset) then fields_answer e f n (suc i)) ≡ Err why → Some (suc n) i why
  unfolding fault ◌then◌
  first_step n i why r true g q =
      (i, record { from = omega arith; before = omega arith; fault = g; told = cc; sound = λ j h l. absurd (omega arith) })
  first_step n i why r false g q =
      let s = r q in (
        s.0,
        record {
          from = omega (arith, s.1.from);
          before = omega (arith, s.1.before);
          fault = s.1.fault;
          told = s.1.told;
          sound = λ j h l. ahead (λ (m : ℕ). m < s.0 → faulty_at e f m ≡ false) (j - i) i (λ _. g) (λ m p o t. s.1.sound m p t) j h (omega arith) l;
        },
      )

  pub first-fault : (n i : ℕ) (why : Refusal) → fields_answer e f n i ≡ Err why → Some n i why
  unfolding fields_answer fault ◌then◌
  first-fault zero i why q = absurd (never (sym q))
  first-fault (suc n) i why q = first_step n i why (first-fault n (suc i) why) (faulty_at e f i) refl q

  -- every field of an accepted image keeps its rules, and an image of which every field does is accepted

  pub all_sound : (n : ℕ) → fields_answer e f n 0 ≡ Ok tt → (i : ℕ) → i < n → faulty_at e f i ≡ false
  all_sound n q i h = answer-sound n 0 q i (omega arith) (omega arith)

  pub none-faulty : (n : ℕ) → ((i : ℕ) → i < n → faulty_at e f i ≡ false) → fields_answer e f n 0 ≡ Ok tt
  none-faulty n s = answer-none n 0 (λ j h g. s j (omega arith))

-- values in the bytes of values

module _ (e : Edition) (b : List ℕ) where
  pub value-at : (n i : ℕ) → i < n → get_or (values_of e b n) i 0 ≡ number (size_of (e.rows i).width) b (e.rows i).offset
  unfolding values_of
  value-at zero i h = absurd (omega arith)
  value-at (suc n) i h = go (ℕ_discrete i n) (λ g. value-at n i g)
    where
      go : Dec (i ≡ n) → (i < n → get_or (values_of e b n) i 0 ≡ number (size_of (e.rows i).width) b (e.rows i).offset) → get_or (values_of e b n ++ (number (size_of (e.rows n).width) b (e.rows n).offset ∷ [])) i 0 ≡ number (size_of (e.rows i).width) b (e.rows i).offset
      go (yes q) r = rw q (get_or_at (values_of e b n) _ [] 0 n (values_length e b n))
      go (no d) r = get_or-append (values_of e b n) _ 0 i (omega (arith, values_length e b n)) ∙ r (omega arith)

module _ {e : Edition} (laid : Laid e) where
  pub rows-rise : (m n : ℕ) → n + m ≤ e.fields → (e.rows n).offset ≤ (e.rows (n + m)).offset
  rows-rise zero n h = let e : n + 0 ≡ n = omega arith in rw e (le_refl _)
  rows-rise (suc m) n h =
      let e : n + suc m ≡ suc (n + m) = omega arith in
      rw e (omega (arith, rows-rise m n (omega arith), laid.next (n + m) (omega arith)))

  -- values that their fields have room for
  abbrev pub Fits : List ℕ → Type 0
  Fits f = (i : ℕ) → i < e.fields → get_or f i 0 < 256 ^ size_of (e.rows i).width

  module _ (f : List ℕ) (fits : Fits f) where
    number-here : (n : ℕ) (rest : List ℕ) → n < e.fields → number (size_of (e.rows n).width) (bytes_of e f n ++ (bytes (size_of (e.rows n).width) (get_or f n 0) ++ rest)) (e.rows n).offset ≡ get_or f n 0
    number-here n rest h =
        ap (front (size_of (e.rows n).width)) (drop_at (bytes_of e f n) (bytes (size_of (e.rows n).width) (get_or f n 0) ++ rest) (e.rows n).offset (image-length laid f n (omega arith)))
        ∙ front_bytes (size_of (e.rows n).width) (get_or f n 0) rest (fits n h)

    abbrev Here : ℕ → ℕ → List ℕ → Type 0
    Here n i rest = number (size_of (e.rows i).width) (bytes_of e f n ++ (bytes (size_of (e.rows n).width) (get_or f n 0) ++ rest)) (e.rows i).offset ≡ get_or f i 0

    pub number_in : (n i : ℕ) (rest : List ℕ) → n ≤ e.fields → i < n → number (size_of (e.rows i).width) (bytes_of e f n ++ rest) (e.rows i).offset ≡ get_or f i 0
    unfolding bytes_of
    number_in zero i rest h l = absurd (omega arith)
    number_in (suc n) i rest h l =
        rw (append_assoc (bytes_of e f n) (bytes (size_of (e.rows n).width) (get_or f n 0)) rest)
        (go (ℕ_discrete i n) (λ g. number_in n i (bytes (size_of (e.rows n).width) (get_or f n 0) ++ rest) (omega arith) g))
      where
        go : Dec (i ≡ n) → (i < n → Here n i rest) → Here n i rest
        go (yes e) r = rw e (number-here n rest (omega arith))
        go (no d) r = r (omega arith)

    pub values-of-bytes : length f ≡ e.fields → values_of e (bytes_of e f e.fields) e.fields ≡ f
    values-of-bytes q =
        let whole : List ℕ = bytes_of e f e.fields in
        ext_get_or 0 _ f (values_length e whole e.fields ∙ sym q)
        (λ i h. let l : i < e.fields = omega (arith, h, values_length e whole e.fields) in
        value-at e whole e.fields i l
        ∙ subst (λ (b : List ℕ). number (size_of (e.rows i).width) b (e.rows i).offset ≡ get_or f i 0) (append-nil whole)
        (number_in e.fields i [] (omega arith) l))

  module _ (b : List ℕ) (small : (i : ℕ) → i < length b → get_or b i 0 < 256) (whole : (e.rows e.fields).offset ≤ length b) where
    room : (n : ℕ) → n < e.fields → (e.rows n).offset + size_of (e.rows n).width ≤ length b
    room n h =
        let q : suc n + (e.fields - suc n) ≡ e.fields = omega arith in
        omega (arith, laid.next n h, whole, rw q at (rows-rise (e.fields - suc n) (suc n) (omega arith)))

    pub bytes-of-values : (n : ℕ) → n ≤ e.fields → bytes_of e (values_of e b e.fields) n ≡ take (e.rows n).offset b
    unfolding bytes_of
    bytes-of-values zero h = rw laid.zeroth
    bytes-of-values (suc n) h =
        rw
        (laid.next n (omega arith), bytes-of-values n (omega arith), value-at e b e.fields n (omega arith), take-add (e.rows n).offset (size_of (e.rows n).width) b)
        (ap (λ (r : List ℕ). take (e.rows n).offset b ++ r)
        (bytes-front (size_of (e.rows n).width) (drop (e.rows n).offset b)
        (omega (arith, length-drop (e.rows n).offset b, room n (omega arith)))
        (λ i g. rw (get_or-drop (e.rows n).offset b i 0) (small ((e.rows n).offset + i) (omega (arith, room n (omega arith)))))))

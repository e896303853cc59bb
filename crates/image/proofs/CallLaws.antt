-- What `write_image` and `read_image` answer and leave: one law for a refusal, one for the call accepted.
use Rattle.std.specs.Prelude.{◌≡◌, ℕ, ◌+◌, ◌-◌, ◌<◌, ◌≤◌, true, false, not, ltb, List, [], ◌++◌, length, drop, replicate, Ok, Err}
use mathlib.Core.Path.{refl, sym, ap, ◌∙◌}
use native.Mathlib.Omega.{arith}
use borrow.Author.Tests.{le-ltb, lt-ltb}
use lib.Seq.{sets, sets-eq}
use Rattle.fields.proofs.EditionLaws.{fields-least, padded, state-padded}
use Rattle.fields.specs.Fields.{fields_of, state_of}
use Rattle.refusal.proofs.RefusalLaws as order
use Rattle.refusal.specs.Refusal.{Tells, fault, Answer}
use Rattle.refusal.specs.declared.Refusal.{Refusal}
use Rattle.refusal.specs.declared.Refusal.TheVariants.{ImageSize, Room, State}
use Rattle.table.specs.Table.{field_count, known_edition, newest}
use Rattle.table.specs.declared.Known.{Known}
use Rattle.vsu.specs.Core.{in_range, unit_answer}
use Rattle.vsu.specs.declared.unit.Vsu.{Vsu}
use Rattle.image.specs.Image.{bytes_of, edition_in, fields_answer, fields_in, image_answer, image_of, known_in, loaded_by, read_answer, read_of, written_by, written_of}
use Rattle.image.specs.declared.Loaded.{Loaded}
use Rattle.image.proofs.ImageLaws.{answer-same, values_length}
use Rattle.image.proofs.RoundTrip.{image-420, sized, unsized}

-- writing

module _ (u : Vsu) (out : List ℕ) where
  abbrev pub Wrote : Answer → List ℕ → Type 0
  Wrote a after = (a ≡ (written_of u out).answer) × (after ≡ (written_of u out).out) × Tells a (image_answer u (length out))

  wrote-refused : {why : Refusal} → image_answer u (length out) ≡ Err why → Wrote (Err why) out
  unfolding written_by
  wrote-refused q = (rw q, rw q, order.tells (sym q))

  state-refused : in_range u ≡ false → image_answer u (length out) ≡ Err State
  unfolding image_answer unit_answer
  state-refused h = order.ends (fault (ltb (length out) newest.size) Room) (order.at-fault {t = not (in_range u)} State (rw h))

  room-refused : in_range u ≡ true → length out < newest.size → image_answer u (length out) ≡ Err Room
  unfolding image_answer unit_answer
  room-refused h l = order.on _ (order.sound {t = not (in_range u)} State (rw h)) ∙ order.at-fault Room (lt-ltb _ _ l)

  pub wrote-state : in_range u ≡ false → Wrote (Err State) out
  wrote-state h = wrote-refused (state-refused h)

  pub wrote-room : in_range u ≡ true → length out < newest.size → Wrote (Err Room) out
  wrote-room h l = wrote-refused (room-refused h l)

  image-accepted : in_range u ≡ true → newest.size ≤ length out → image_answer u (length out) ≡ Ok tt
  unfolding image_answer unit_answer
  image-accepted h l = order.on _ (order.sound {t = not (in_range u)} State (rw h)) ∙ order.sound Room (le-ltb _ _ l)

  laid : {f : List ℕ} → newest.size ≤ length out → f ≡ fields_of newest u → sets out 0 (bytes_of newest f newest.fields) ≡ image_of newest u ++ drop newest.size out
  unfolding image_of
  laid l q =
      let n : length (image_of newest u) ≡ newest.size = image-420 u in
      let z : 0 + length (image_of newest u) ≡ newest.size = omega (arith, n) in
      rw q (sets-eq (image_of newest u) out 0 (omega (arith, n, l)) ∙ ap (λ (k : ℕ). image_of newest u ++ drop k out) z)

  pub wrote : {f after : List ℕ} → in_range u ≡ true → newest.size ≤ length out → f ≡ fields_of newest u → after ≡ sets out 0 (bytes_of newest f newest.fields) → Wrote (Ok tt) after
  unfolding written_by
  wrote h l e p =
      let q : image_answer u (length out) ≡ Ok tt = image-accepted h l in (rw q, rw q (p ∙ laid l e), order.tells (sym q))

  -- for callers
  pub written : in_range u ≡ true → newest.size ≤ length out → written_of u out ≡ record { answer = Ok tt; out = image_of newest u ++ drop newest.size out }
  unfolding written_by
  written h l = rw (image-accepted h l)

-- reading

answer-of : (a : Answer) (f : List ℕ) → (loaded_by a f).answer ≡ a
unfolding loaded_by
answer-of (Ok done) f = refl
answer-of (Err why) f = refl

-- for callers
pub read_answer_lem : (b : List ℕ) → (read_of b).answer ≡ read_answer b
unfolding read_of
read_answer_lem b = answer-of (read_answer b) (fields_in (edition_in b) b)

module _ (b : List ℕ) where
  abbrev pub Told : Loaded → Type 0
  Told r = (r ≡ read_of b) × Tells r.answer (read_answer b)

  told : {r : Loaded} → r ≡ read_of b → Told r
  told e = (e, order.tells (ap (λ (r : Loaded). r.answer) e ∙ read_answer_lem b))

  pub read-size : {r : Loaded} → (length b ≡ newest.size → ⊥) → r ≡ loaded_by (Err ImageSize) [] → Told r
  unfolding read_of read_answer loaded_by
  read-size n e = told (e ∙ rw (unsized (edition_in b) b n))

  module _ {k : Known} {f : List ℕ} {a : Answer} (d : k ≡ known_in b) (n : length b ≡ newest.size) (p : f ≡ fields_in (known_edition k) b ++ replicate (newest.fields - field_count k) 0) (q : a ≡ fields_answer (known_edition k) f (field_count k) 0) where
    abbrev values : List ℕ
    values = fields_in (known_edition k) b

    answered : a ≡ read_answer b
    unfolding read_answer
    answered =
        rw (← d)
        (q ∙ ap (λ (f : List ℕ). fields_answer (known_edition k) f (field_count k) 0) p
        ∙ answer-same (known_edition k) _ values (padded values (newest.fields - field_count k)) (field_count k) 0
        ∙ sym (sized (known_edition k) b n))

    pub read-refused : {why : Refusal} {r : Loaded} → a ≡ Err why → r ≡ loaded_by (Err why) [] → Told r
    unfolding read_of loaded_by
    read-refused c e = told (e ∙ rw (← answered, c))

    state-read : state_of f ≡ state_of values
    state-read =
        ap state_of p ∙ state-padded values (newest.fields - field_count k) (omega (arith, values_length (known_edition k) b (field_count k), fields-least k))

    pub read_done : {u : Vsu} → a ≡ Ok tt → u ≡ state_of f → Told (record { state = u; answer = Ok tt })
    unfolding read_of loaded_by
    read_done c e = told (rw (e, state-read, ← answered, c, ← d))

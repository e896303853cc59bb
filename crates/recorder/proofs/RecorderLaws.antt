-- Laws of specs/Recorder.antt.
use Prim.Native.Nat.{ℕ, suc, ◌+◌, ◌/◌, ◌%◌, ◌<◌, ◌≤◌}
use mathlib.Core.Path.{◌≡◌, refl, sym, ap, ◌∙◌}
use mathlib.Core.Bool.{true, false, not, ◌&&◌}
use mathlib.Core.List.{List, [], ◌∷◌, ◌++◌}
use native.Mathlib.Numerals.{add-one}
use native.Mathlib.Omega.{arith}
use borrow.Author.Tests.{le-leb, lt-leb, le-ltb, lt-ltb}
use lib.Dec.{eqb, leb, ltb}
use lib.Seq.{sets}
use Rattle.little.specs.Little.{bytes}
use Rattle.little.proofs.LittleLaws.{sets-append}
use Rattle.register_log.specs.Log.{Layout, edition1, entry_place, most_entries}
use Rattle.register_log.specs.Encoder.{entry_bytes, header_bytes}
use Rattle.register_log.specs.declared.Write.{Write}
use Rattle.refusal.specs.Refusal.{fault, ◌then◌, Tells, Answer}
use Rattle.refusal.specs.declared.Refusal.{Refusal}
use Rattle.refusal.specs.declared.Refusal.TheVariants.{Room, LogCount, CycleEarlier, LengthShort}
use Rattle.refusal.proofs.RefusalLaws.{tells}
use Rattle.recorder.specs.Recorder.{add_answer, finish_answer, Gives, gives_by, start_answer}
use Rattle.recorder.specs.declared.Recorder.{Recorder}
use Rattle.std.specs.Prelude.{Ok, Err}

-- an order's answer gives the record, the buffer and what the answer tells

-- what a contract says of the answer a, the record r and the buffer b that a call leaves: an order's answer gives them, and a tells of it

abbrev pub Promised : Gives → Answer → Answer → Recorder → List ℕ → Type 0
Promised g order a r b = (a ≡ g.turn.answer) × (r ≡ g.turn.recorder) × (b ≡ g.buffer) × Tells a order

module _ {order : Answer} (r q : Recorder) (b c : List ℕ) where
  pub refuses : {why : Refusal} → order ≡ Err why → Promised (gives_by order r b q c) order (Err why) r b
  unfolding gives_by
  refuses e = (rw e, rw e, rw e, tells (sym e))

  pub takes : order ≡ Ok tt → {s : Recorder} → s ≡ q → {out : List ℕ} → out ≡ c → Promised (gives_by order r b q c) order (Ok tt) s out
  unfolding gives_by
  takes e p o = (rw e, rw e p, rw e o, tells (sym e))

-- the rows of the orders

module _ (l : Layout) (room : ℕ) where
  pub start-short : room < l.header → start_answer l room ≡ Err Room
  unfolding start_answer fault
  start-short h = rw (lt-ltb room l.header h)

  pub start-passes : l.header ≤ room → start_answer l room ≡ Ok tt
  unfolding start_answer fault
  start-passes h = rw (le-ltb room l.header h)

  module _ (r : Recorder) (cycle : ℕ) where
    pub add-earlier : (not (eqb r.entries 0) && ltb cycle r.last) ≡ true → add_answer l r cycle room ≡ Err CycleEarlier
    unfolding add_answer fault ◌then◌
    add-earlier h = rw h

    module _ (h : (not (eqb r.entries 0) && ltb cycle r.last) ≡ false) where
      pub add-full : most_entries ≤ r.entries → add_answer l r cycle room ≡ Err LogCount
      unfolding add_answer fault ◌then◌
      add-full f = rw (h, le-leb most_entries r.entries f)

      pub add-roomless : r.entries < most_entries → {place : ℕ} → place ≡ entry_place l (r.entries + 1) → room < place → add_answer l r cycle room ≡ Err Room
      unfolding add_answer fault ◌then◌
      add-roomless f e g = rw (h, lt-leb most_entries r.entries f, lt-ltb room (entry_place l (suc r.entries)) (rw (e, add-one r.entries) at g))

      pub add-passes : r.entries < most_entries → {place : ℕ} → place ≡ entry_place l (r.entries + 1) → place ≤ room → add_answer l r cycle room ≡ Ok tt
      unfolding add_answer fault ◌then◌
      add-passes f e g = rw (h, lt-leb most_entries r.entries f, le-ltb room (entry_place l (suc r.entries)) (rw (e, add-one r.entries) at g))

  module _ (r : Recorder) (cycles : ℕ) where
    pub finish-low : (not (eqb r.entries 0) && leb cycles r.last) ≡ true → finish_answer l r cycles room ≡ Err LengthShort
    unfolding finish_answer fault ◌then◌
    finish-low h = rw h

    module _ (h : (not (eqb r.entries 0) && leb cycles r.last) ≡ false) where
      pub finish-full : most_entries < r.entries → finish_answer l r cycles room ≡ Err LogCount
      unfolding finish_answer fault ◌then◌
      finish-full f = rw (h, lt-ltb most_entries r.entries f)

      pub finish-roomless : r.entries ≤ most_entries → {place : ℕ} → place ≡ entry_place l r.entries → room < place → finish_answer l r cycles room ≡ Err Room
      unfolding finish_answer fault ◌then◌
      finish-roomless f e g = rw (h, le-ltb most_entries r.entries f, lt-ltb room (entry_place l r.entries) (rw e at g))

      pub finish-passes : r.entries ≤ most_entries → {place : ℕ} → place ≡ entry_place l r.entries → place ≤ room → finish_answer l r cycles room ≡ Ok tt
      unfolding finish_answer fault ◌then◌
      finish-passes f e g = rw (h, le-ltb most_entries r.entries f, le-ltb room (entry_place l r.entries) (rw e at g))

-- where the next entry begins
pub next_place : (n : ℕ) {at : ℕ} → at ≡ entry_place edition1 n → at + 8 ≡ entry_place edition1 (n + 1)
next_place n e = omega (arith, e)

-- what is written, number after number

module _ (b : List ℕ) where
  pub puts-entry : (w : Write) (index : ℕ) {at : ℕ} {m n o : List ℕ} → w.byte < 256 → at ≡ entry_place edition1 index → m ≡ sets b at (bytes 4 w.due) → n ≡ sets m (at + 4) (bytes 2 w.address) → o ≡ sets n (at + 6) (bytes 2 w.byte) → o ≡ sets b (entry_place edition1 index) (entry_bytes edition1 w)
  unfolding entry_bytes bytes
  puts-entry w index {at} h e p q s =
      let low : w.byte % 256 ≡ w.byte = omega (arith, h) in
      let high : w.byte / 256 % 256 ≡ 0 = omega (arith, h) in
      rw (s, q, p, e, low, high)
      (ap (λ (m : List ℕ). sets m (entry_place edition1 index + 6) (w.byte ∷ 0 ∷ [])) (sets-append b (entry_place edition1 index) (bytes 4 w.due) (bytes 2 w.address) refl)
      ∙ sets-append b (entry_place edition1 index) (bytes 4 w.due ++ bytes 2 w.address) (w.byte ∷ 0 ∷ []) refl)

  pub puts-header : (count cycles : ℕ) {m n o p q : List ℕ} → m ≡ sets b 0 (bytes 2 1) → n ≡ sets m 2 (bytes 2 16) → o ≡ sets n 4 (bytes 4 count) → p ≡ sets o 8 (bytes 4 16) → q ≡ sets p 12 (bytes 4 cycles) → q ≡ sets b 0 (header_bytes edition1 count cycles)
  unfolding header_bytes bytes
  puts-header count cycles d e f g h = rw (h, g, f, e, d)

pub one_more : (n k : ℕ) → ◌≡◌ {A = Recorder} (record { entries = n + 1; last = k }) (record { entries = suc n; last = k })
one_more n k = rw (add-one n)

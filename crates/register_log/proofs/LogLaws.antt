-- Laws of specs/Log.antt.
use Prim.Native.Nat.{ℕ, zero, suc, ◌+◌, ◌-◌, ◌<◌, ◌≤◌}
use mathlib.Core.Path.{◌≡◌, refl, sym, ap, ◌∙◌}
use mathlib.Core.Bool.{Bool, true, false, cond, not, ◌||◌}
use mathlib.Core.List.{List, [], ◌∷◌}
use native.Mathlib.Nat.{add-zero}
use native.Mathlib.Numerals.{add-one}
use native.Mathlib.Omega.{arith}
use borrow.Author.Tests.{lt-ltb, le-ltb, eq-eqb, ne_eqb}
use lib.Dec.{eqb, leb, ltb}
use lib.ListN.{get_or, length}
use Rattle.little.specs.Little.{number}
use Rattle.refusal.specs.Refusal.{fault, ◌then◌, Tells, Answer}
use Rattle.refusal.specs.declared.Refusal.{Refusal}
use Rattle.refusal.specs.declared.Refusal.TheVariants.{LogShort, LogEdition, LogHeader, LogCount, LogSize, LogEntry}
use Rattle.refusal.proofs.RefusalLaws as order
use Rattle.register_log.specs.Log.{Layout, entry_place, most_entries, checked_by, checked_answer, counted_answer, entries_answer, entry_answer, log_answer, due_before, due_before_of, count_in, entry_in, handed, writes_from, check_of, count_of, cycles_of, due_at, due_earlier, edition_of, entry_faulty, entry_unfit, header_of, offset_of, write_at, Checked, Counted, Read, log_with}
use Rattle.register_log.specs.declared.Write.{Write}
use Rattle.std.specs.Prelude.{Ok, Err, Some, None}

-- the pass over the entries

left : (count i : ℕ) → i < count → count - i ≡ suc (count - (i + 1))
left count i h = omega arith

-- what the loop tests is whether entry i is at fault
pub tested : (l : Layout) (b : List ℕ) (cycles i : ℕ) {at byte due before : ℕ} → at ≡ entry_place l i → byte ≡ get_or b (at + (l.due + 3)) 0 → due ≡ number l.due b at → before ≡ due_earlier l b i → {t : Bool} → (not (eqb byte 0) || leb cycles due || ltb due before) ≡ t → entry_faulty l b cycles i ≡ t
unfolding entry_unfit due_at
tested l b cycles i p q r s e = rw (q, r, p, s) at e

module _ (l : Layout) (b : List ℕ) (count cycles i : ℕ) where
  pub entries-fault : i < count → entry_faulty l b cycles i ≡ true → entries_answer l b cycles (count - i) i ≡ Err (LogEntry i)
  unfolding entries_answer
  entries-fault h f = rw (left count i h) (order.ends _ (order.at-fault (LogEntry i) f))

  pub entries-on : i < count → entry_faulty l b cycles i ≡ false → entries_answer l b cycles (count - i) i ≡ entries_answer l b cycles (count - (i + 1)) (i + 1)
  unfolding entries_answer
  entries-on h f = rw (left count i h, add-one i) (order.on _ (order.sound (LogEntry i) f))

  pub entries-end : count ≤ i → entries_answer l b cycles (count - i) i ≡ Ok tt
  unfolding entries_answer
  entries-end h = let z : count - i ≡ 0 = omega arith in rw z

pub earlier-next : (l : Layout) (b : List ℕ) (i : ℕ) {at due : ℕ} → at ≡ entry_place l i → due ≡ number l.due b at → due ≡ due_earlier l b (i + 1)
unfolding due_earlier due_at
earlier-next l b i p q = rw (add-one i, q, p)

-- an answer of the pass is the check's, by the answer of its entries

pub by-refused : {a : Answer} {why : Refusal} (count cycles : ℕ) → a ≡ Err why → Err why ≡ checked_by a count cycles
by-refused count cycles h = rw h

pub by-accepted : {a : Answer} (count cycles : ℕ) → a ≡ Ok tt → log_with count cycles ≡ checked_by a count cycles
by-accepted count cycles h = rw h

-- the header, row by row: each law has the tests before it passed

module _ (l : Layout) (b : List ℕ) where
  pub too_short : length b < l.header → log_answer l b ≡ Err LogShort
  unfolding log_answer
  too_short h = order.ends _ (order.at-fault LogShort (lt-ltb (length b) l.header h))

  module _ (long : l.header ≤ length b) {e : ℕ} (p : e ≡ edition_of b) where
    pub wrong-edition : (e ≡ l.edition → ⊥) → log_answer l b ≡ Err LogEdition
    unfolding log_answer fault ◌then◌
    wrong-edition n = rw (le-ltb (length b) l.header long, ← p, ne_eqb e l.edition n)

    module _ (v : e ≡ l.edition) {h o : ℕ} (q : h ≡ header_of b) (r : o ≡ offset_of b) where
      pub wrong-header : (not (eqb h l.header) || not (eqb o l.header)) ≡ true → log_answer l b ≡ Err LogHeader
      unfolding log_answer fault ◌then◌
      wrong-header t = rw (le-ltb (length b) l.header long, ← p, eq-eqb e l.edition v, ← q, ← r, t)

      module _ (t : (not (eqb h l.header) || not (eqb o l.header)) ≡ false) {c : ℕ} (s : c ≡ count_of b) where
        pub too_many : most_entries < c → log_answer l b ≡ Err LogCount
        unfolding log_answer fault ◌then◌
        too_many g = rw (le-ltb (length b) l.header long, ← p, eq-eqb e l.edition v, ← q, ← r, t, ← s, lt-ltb most_entries c g)

        module _ (g : c ≤ most_entries) {z : ℕ} (w : z ≡ entry_place l c) where
          pub wrong_size : (length b ≡ z → ⊥) → log_answer l b ≡ Err LogSize
          unfolding log_answer fault ◌then◌
          wrong_size n =
              rw (le-ltb (length b) l.header long, ← p, eq-eqb e l.edition v, ← q, ← r, t, ← s, le-ltb most_entries c g, ← w, ne_eqb (length b) z n)

          -- and the pass, which has the header's numbers
          pub then-entries : length b ≡ z → {k : ℕ} → k ≡ cycles_of l b → checked_by (entries_answer l b k c 0) c k ≡ check_of l b
          unfolding check_of log_answer fault ◌then◌
          then-entries n x =
              rw
              (le-ltb (length b) l.header long, ← p, eq-eqb e l.edition v, ← q, ← r, t, ← s, le-ltb most_entries c g, ← w, eq-eqb (length b) z n, ← x)

-- counting, from the front

module _ (l : Layout) (b : List ℕ) (count cycle i : ℕ) where
  -- what entry i adds to the number of those due before the cycle
  counted : {d : ℕ} → i < count → d ≡ due_at l b i → due_before (writes_from l b (count - i) i) cycle ≡ cond (ltb d cycle) 1 0 + due_before (writes_from l b (count - (i + 1)) (i + 1)) cycle
  unfolding writes_from due_before write_at
  counted {d} h e = rw (left count i h, ← e, add-one i)

  module _ (n : ℕ) {whole d : ℕ} (h : i < count) (p : n + due_before (writes_from l b (count - i) i) cycle ≡ whole) (e : d ≡ due_at l b i) where
    pub count-one : d < cycle → n + 1 + due_before (writes_from l b (count - (i + 1)) (i + 1)) cycle ≡ whole
    count-one g = omega (arith, p, rw (lt-ltb d cycle g) at (counted h e))

    pub count_none : cycle ≤ d → n + due_before (writes_from l b (count - (i + 1)) (i + 1)) cycle ≡ whole
    count_none g = omega (arith, p, rw (le-ltb d cycle g) at (counted h e))

  pub count-end : count ≤ i → due_before (writes_from l b (count - i) i) cycle ≡ 0
  unfolding writes_from due_before
  count-end h = let z : count - i ≡ 0 = omega arith in rw z

module _ (l : Layout) (b : List ℕ) where
  pub earlier-of : (i : ℕ) {k d : ℕ} → (1 ≤ i) × (k ≡ i - 1) → d ≡ due_at l b k → d ≡ due_earlier l b i
  unfolding due_earlier
  earlier-of zero h e = absurd (omega (arith, h))
  earlier-of (suc i) h e = e ∙ ap (due_at l b) (omega (arith, h))

  pub earlier-first : (i : ℕ) → (1 ≤ i → ⊥) → 0 ≡ due_earlier l b i
  unfolding due_earlier
  earlier-first zero n = refl
  earlier-first (suc i) n = absurd (n (omega arith))

-- what stands at a place of the writes

module _ (l : Layout) (b : List ℕ) where
  pub handed-in : (n i j : ℕ) → j < n → handed (writes_from l b n i) j ≡ Ok (Some (write_at l b (i + j)))
  unfolding handed writes_from
  handed-in zero i j h = absurd (omega arith)
  handed-in (suc n) i zero h = ap (λ (k : ℕ). Ok (Some (write_at l b k))) (sym (add-zero i))
  handed-in (suc n) i (suc j) h = handed-in n (suc i) j (omega arith) ∙ ap (λ (k : ℕ). Ok (Some (write_at l b k))) (omega arith)

  pub handed-past : (n i j : ℕ) → n ≤ j → handed (writes_from l b n i) j ≡ Ok None
  unfolding handed writes_from
  handed-past zero i j h = refl
  handed-past (suc n) i zero h = absurd (omega arith)
  handed-past (suc n) i (suc j) h = handed-past n (suc i) j (omega arith)

-- the answers by a check's answer

module _ {c : Checked} (l : Layout) (b : List ℕ) where
  pub entry_read : {count cycles i : ℕ} {w : Write} → c ≡ log_with count cycles → i < count → w ≡ write_at l b i → Ok (Some w) ≡ entry_in l c b i
  unfolding entry_in
  entry_read {i = i} q h e = rw (q, handed-in l b _ 0 i h, e) (ap (λ (k : ℕ). Ok (Some (write_at l b k))) (omega arith))

  pub entry-ended : {count cycles i : ℕ} → c ≡ log_with count cycles → count ≤ i → Ok None ≡ entry_in l c b i
  unfolding entry_in
  entry-ended {i = i} q h = rw (q, handed-past l b _ 0 i h)

  pub entry-refused : {why : Refusal} (i : ℕ) → c ≡ Err why → Err why ≡ entry_in l c b i
  unfolding entry_in
  entry-refused i q = rw q

  pub counted-in : {count cycles n : ℕ} (cycle : ℕ) → c ≡ check_of l b → c ≡ log_with count cycles → n ≡ due_before (writes_from l b count 0) cycle → Ok n ≡ due_before_of l b cycle
  unfolding count_in
  counted-in cycle p q e = rw (← p, q, e)

  pub counted-refused : {why : Refusal} (cycle : ℕ) → c ≡ check_of l b → c ≡ Err why → Err why ≡ due_before_of l b cycle
  unfolding count_in
  counted-refused cycle p q = rw (← p, q)

pub count-start : (l : Layout) (b : List ℕ) (count cycle : ℕ) → 0 + due_before (writes_from l b (count - 0) 0) cycle ≡ due_before (writes_from l b count 0) cycle
count-start l b count cycle = let z : count - 0 ≡ count = omega arith in rw z (omega arith)

-- what an answer tells is the order's first fault

check-answer : (l : Layout) (b : List ℕ) → checked_answer (check_of l b) ≡ log_answer l b
unfolding check_of
check-answer l b = by (log_answer l b)
  where
    by : (a : Answer) → checked_answer (checked_by a (count_of b) (cycles_of l b)) ≡ a
    by (Ok done) = refl
    by (Err why) = refl

entry-answer : (l : Layout) (b : List ℕ) (c : Checked) (i : ℕ) → entry_answer (entry_in l c b i) ≡ checked_answer c
unfolding entry_in handed
entry-answer l b (Ok log) i = none (writes_from l b log.count 0) i
  where
    none : (ws : List Write) (j : ℕ) → entry_answer (handed ws j) ≡ Ok tt
    none [] j = refl
    none (w ∷ ws) zero = refl
    none (w ∷ ws) (suc j) = none ws j
entry-answer l b (Err why) i = refl

counted-answer : (l : Layout) (b : List ℕ) (c : Checked) (cycle : ℕ) → counted_answer (count_in l c b cycle) ≡ checked_answer c
unfolding count_in
counted-answer l b (Ok log) cycle = refl
counted-answer l b (Err why) cycle = refl

module _ (l : Layout) (b : List ℕ) where
  pub check-tells : {r : Checked} → r ≡ check_of l b → (r ≡ check_of l b) × Tells (checked_answer r) (log_answer l b)
  check-tells e = (e, order.tells (ap checked_answer e ∙ check-answer l b))

  -- a header at fault
  pub refused : {why : Refusal} → log_answer l b ≡ Err why → (Err why ≡ check_of l b) × Tells (Err why) (log_answer l b)
  unfolding check_of
  refused h = check-tells (by-refused (count_of b) (cycles_of l b) h)

  pub read-tells : (c : Checked) (i : ℕ) {r : Read} → r ≡ entry_in l c b i → (r ≡ entry_in l c b i) × Tells (entry_answer r) (checked_answer c)
  read-tells c i e = (e, order.tells (ap entry_answer e ∙ entry-answer l b c i))

  pub count-tells : {r : Counted} (cycle : ℕ) → r ≡ due_before_of l b cycle → (r ≡ due_before_of l b cycle) × Tells (counted_answer r) (log_answer l b)
  count-tells cycle e =
      (e, order.tells (ap counted_answer e ∙ counted-answer l b (check_of l b) cycle ∙ check-answer l b))

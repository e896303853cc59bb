-- What a check's answer tells: an accepted log's entries are sound, a refused one's carried index is the first at fault; and how many
-- entries of an accepted log are due before a cycle is told by two of them.
use Prim.Native.Nat.{ℕ, zero, suc, ◌+◌, ◌-◌, ◌<◌, ◌≤◌}
use mathlib.Core.Path.{◌≡◌, refl, sym, ap, subst, ◌∙◌}
use mathlib.Core.Bool.{Bool, true, false, not, ◌||◌, or-true, true≢false}
use mathlib.Core.List.{List, [], ◌∷◌}
use native.Mathlib.Nat.{add-zero, add-suc, le_refl, le_trans}
use native.Mathlib.Omega.{arith}
use borrow.Author.Tests.{lt-ltb, le-ltb, le-leb, lt-leb, eq-eqb, ne_eqb, ltb-true, ltb-false, leb-true, leb-false, eqb-true, not-false}
use lib.Dec.{eqb, leb, ltb}
use lib.ListN.{get_or, length}
use Rattle.laws.proofs.Cases.{ahead, both, each, neither, ways}
use Rattle.refusal.specs.Refusal.{fault, ◌then◌, number_of, answer_number, Answer}
use Rattle.refusal.specs.declared.Refusal.{Refusal}
use Rattle.refusal.specs.declared.Refusal.TheVariants.{LogShort, LogEdition, LogHeader, LogCount, LogSize, LogEntry}
use Rattle.refusal.proofs.RefusalLaws as order
use Rattle.register_log.specs.Log.{Checked, Layout, entries_in, entry_place, most_entries, checked_by, check_of, count_of, cycles_of, due_at, due_before, due_earlier, edition_of, entries_answer, entry_faulty, entry_unfit, header_of, log_answer, offset_of, stands_at, write_at, writes_from, log_with}
use Rattle.register_log.specs.declared.Write.{Write}
use Rattle.std.specs.Prelude.{Ok, Err}

-- the number of writes

pub writes-length : (l : Layout) (b : List ℕ) (n i : ℕ) → length (writes_from l b n i) ≡ n
unfolding writes_from
writes-length l b zero i = refl
writes-length l b (suc n) i = ap suc (writes-length l b n (suc i))

-- a row that is not the answer

other : (t : Bool) (why : Refusal) {later : Answer} {told : Refusal} → (number_of why ≡ number_of told → ⊥) → (fault t why then later) ≡ Err told → later ≡ Err told
unfolding fault ◌then◌
other true why n h = absurd (n (ap answer_number h))
other false why n h = h

-- the pass

module _ (l : Layout) (b : List ℕ) (cycles : ℕ) where
  pub entries-sound : (n i : ℕ) → entries_answer l b cycles n i ≡ Ok tt → (j : ℕ) → i ≤ j → j < i + n → entry_faulty l b cycles j ≡ false
  unfolding entries_answer
  entries-sound zero i e = λ j h g. absurd (omega arith)
  entries-sound (suc n) i e =
      let s = order.passed (entry_faulty l b cycles i) (LogEntry i) e in
      ahead (λ (j : ℕ). entry_faulty l b cycles j ≡ false) n i s.0 (entries-sound n (suc i) s.1)

  -- "carries the first such index"
  pub record First (n i k : ℕ) : Type 0 where
    pub from : i ≤ k
    pub before : k < i + n
    pub faulty : entry_faulty l b cycles k ≡ true
    pub sound : (j : ℕ) → i ≤ j → j < k → entry_faulty l b cycles j ≡ false

  first_step : (n i k : ℕ) → (entries_answer l b cycles n (suc i) ≡ Err (LogEntry k) → First n (suc i) k) → (t : Bool) → entry_faulty l b cycles i ≡ t → (fault t (LogEntry i) then entries_answer l b cycles n (suc i)) ≡ Err (LogEntry k) → First (suc n) i k
  unfolding fault ◌then◌
  first_step n i k r true f q =
      let e : i ≡ k = cc in
      record {
        from = omega arith;
        before = omega arith;
        faulty = rw (← e) f;
        sound = λ j h g. absurd (omega arith);
      }
  first_step n i k r false f q =
      let s = r q in
      record {
        from = omega (arith, s.from);
        before = omega (arith, s.before);
        faulty = s.faulty;
        sound = λ j h g. ahead (λ (m : ℕ). m < k → entry_faulty l b cycles m ≡ false) (j - i) i (λ _. f) (λ m p o t. s.sound m p t) j h (omega arith) g;
      }

  pub entries-first : (n i k : ℕ) → entries_answer l b cycles n i ≡ Err (LogEntry k) → First n i k
  unfolding entries_answer
  entries-first zero i k e = let z : ◌≡◌ {A = ℕ} 0 1 = cc in absurd (omega arith)
  entries-first (suc n) i k e = first_step n i k (entries-first n (suc i) k) (entry_faulty l b cycles i) refl e

-- a check's answer, and the order's

-- the cycles that a check found
abbrev length_within : Checked → ℕ
length_within (Ok log) = log.cycles
length_within (Err why) = 0

module _ (l : Layout) (b : List ℕ) where
  pub checked-log : {count cycles : ℕ} → check_of l b ≡ log_with count cycles → (log_answer l b ≡ Ok tt) × (count ≡ count_of b) × (cycles ≡ cycles_of l b)
  unfolding check_of
  checked-log {count} {cycles} = by (log_answer l b)
    where
      by : (a : Answer) → checked_by a (count_of b) (cycles_of l b) ≡ log_with count cycles → (a ≡ Ok tt) × (count ≡ count_of b) × (cycles ≡ cycles_of l b)
      by (Ok done) e = (refl, sym (ap entries_in e), sym (ap length_within e))
      by (Err why) e = let z : ◌≡◌ {A = ℕ} 0 1 = cc in absurd (omega arith)

  pub checked_refused : {why : Refusal} → check_of l b ≡ Err why → log_answer l b ≡ Err why
  unfolding check_of
  checked_refused {why} = by (log_answer l b)
    where
      by : (a : Answer) → checked_by a (count_of b) (cycles_of l b) ≡ Err why → a ≡ Err why
      by (Ok done) e = let z : ◌≡◌ {A = ℕ} 0 1 = cc in absurd (omega arith)
      by (Err told) e = cc

-- an accepted log

pub record Accepted (l : Layout) (b : List ℕ) (n k : ℕ) : Type 0 where
  pub edition : edition_of b ≡ l.edition
  pub header : header_of b ≡ l.header
  pub offset : offset_of b ≡ l.header
  pub count : count_of b ≡ n
  pub cycles : cycles_of l b ≡ k
  pub most : n ≤ most_entries
  pub size : length b ≡ entry_place l n
  pub sound : (i : ℕ) → i < n → entry_faulty l b k i ≡ false

pub accepted : (l : Layout) (b : List ℕ) (n k : ℕ) → check_of l b ≡ log_with n k → Accepted l b n k
unfolding log_answer
accepted l b n k e =
    let c = checked-log l b e in
    let long = order.passed (ltb (length b) l.header) LogShort c.0 in
    let edition = order.passed (not (eqb (edition_of b) l.edition)) LogEdition long.1 in
    let header = order.passed (not (eqb (header_of b) l.header) || not (eqb (offset_of b) l.header)) LogHeader edition.1 in
    let both = neither (not (eqb (header_of b) l.header)) (not (eqb (offset_of b) l.header)) header.0 in
    let most = order.passed (ltb most_entries (count_of b)) LogCount header.1 in
    let size = order.passed (not (eqb (length b) (entry_place l (count_of b)))) LogSize most.1 in
    record {
      edition = eqb-true _ _ (not-false _ edition.0);
      header = eqb-true _ _ (not-false _ both.0);
      offset = eqb-true _ _ (not-false _ both.1);
      count = sym c.1;
      cycles = sym c.2;
      most = rw c.1 (ltb-false _ _ most.0);
      size = eqb-true _ _ (not-false _ size.0) ∙ ap (entry_place l) (sym c.1);
      sound = λ i h. rw c.2 (entries-sound l b (cycles_of l b) (count_of b) 0 size.1 i (omega arith) (omega (arith, c.1)));
    }

-- a log refused for an entry: the index that is carried is the first at fault

pub first-fault : (l : Layout) (b : List ℕ) (i : ℕ) → check_of l b ≡ Err (LogEntry i) → First l b (cycles_of l b) (count_of b) 0 i
unfolding log_answer
first-fault l b i e =
    entries-first l b (cycles_of l b) (count_of b) 0 i
    (other (not (eqb (length b) (entry_place l (count_of b)))) LogSize (omega arith)
    (other (ltb most_entries (count_of b)) LogCount (omega arith)
    (other (not (eqb (header_of b) l.header) || not (eqb (offset_of b) l.header)) LogHeader (omega arith)
    (other (not (eqb (edition_of b) l.edition)) LogEdition (omega arith)
    (other (ltb (length b) l.header) LogShort (omega arith)
    (checked_refused l b e))))))

-- "Due cycles never fall and are below L."

module _ {l : Layout} {b : List ℕ} {n k : ℕ} (a : Accepted l b n k) where
  entry-sound : (i : ℕ) → i < n → (due_at l b i < k) × (due_earlier l b i ≤ due_at l b i)
  unfolding entry_unfit
  entry-sound i h =
      let s = neither (not (eqb (get_or b (entry_place l i + (l.due + 3)) 0) 0) || leb k (due_at l b i)) (ltb (due_at l b i) (due_earlier l b i)) (a.sound i h) in
      let t = neither (not (eqb (get_or b (entry_place l i + (l.due + 3)) 0) 0)) (leb k (due_at l b i)) s.0 in
      (leb-false _ _ t.1, ltb-false _ _ s.1)

  pub due_below : (i : ℕ) → i < n → due_at l b i < k
  due_below i h = (entry-sound i h).0

  pub due-rises : (i : ℕ) → suc i < n → due_at l b i ≤ due_at l b (suc i)
  unfolding due_earlier
  due-rises i h = (entry-sound (suc i) h).1

  -- from one entry to a later one
  pub due-order : (m i : ℕ) → i + m < n → due_at l b i ≤ due_at l b (i + m)
  due-order zero i h = rw add-zero (le_refl _)
  due-order (suc m) i h = rw add-suc (le_trans (due-order m i (omega arith)) (due-rises (i + m) (omega arith)))

-- the same of the list of writes

pub writes_at : (l : Layout) (b : List ℕ) (n i j : ℕ) (d : Write) → j < n → get_or (writes_from l b n i) j d ≡ write_at l b (i + j)
unfolding writes_from
writes_at l b zero i j d h = absurd (omega arith)
writes_at l b (suc n) i zero d h = ap (write_at l b) (sym (add-zero i))
writes_at l b (suc n) i (suc j) d h = writes_at l b n (suc i) j d (omega arith) ∙ ap (write_at l b) (omega arith)

module _ {l : Layout} {b : List ℕ} {n k : ℕ} (a : Accepted l b n k) (d : Write) where
  write-due : (j : ℕ) → j < n → (get_or (writes_from l b n 0) j d).due ≡ due_at l b j
  unfolding write_at
  write-due j h = ap (λ (w : Write). w.due) (writes_at l b n 0 j d h) ∙ ap (due_at l b) (omega arith)

  pub write-below : (j : ℕ) → j < n → (get_or (writes_from l b n 0) j d).due < k
  write-below j h = rw (write-due j h) (due_below a j h)

  pub write-rises : (j : ℕ) → suc j < n → (get_or (writes_from l b n 0) j d).due ≤ (get_or (writes_from l b n 0) (suc j) d).due
  write-rises j h = rw (write-due j (omega arith), write-due (suc j) h) (due-rises a j h)

-- The entries due before a cycle are the first ones, so that two entries tell their number.

module _ {lay : Layout} {b : List ℕ} {n k : ℕ} (a : Accepted lay b n k) (c : ℕ) where
  abbrev amount : ℕ → ℕ → ℕ
  amount m i = due_before (writes_from lay b m i) c

  none-due : (m i : ℕ) → i + m ≤ n → (0 < m → c ≤ due_at lay b i) → amount m i ≡ 0
  unfolding writes_from due_before write_at
  none-due zero i h g = refl
  none-due (suc m) i h g =
      rw (le-ltb (due_at lay b i) c (g (omega arith)))
      (omega (arith, none-due m (suc i) (omega arith) (λ p. le_trans (g (omega arith)) (due-rises a i (omega arith)))))

  record Prefix (m i t : ℕ) : Type 0 where
    pub most : t ≤ m
    pub low : (j : ℕ) → i ≤ j → j < i + t → due_at lay b j < c
    pub high : (j : ℕ) → i + t ≤ j → j < i + m → c ≤ due_at lay b j

  one_more : (m i t : ℕ) → due_at lay b i < c → Prefix m (suc i) t → Prefix (suc m) i (1 + t)
  one_more m i t g p =
      record {
        most = omega (arith, p.most);
        low = λ j h l. ahead (λ (j : ℕ). due_at lay b j < c) t i g p.low j h (omega arith);
        high = λ j h l. p.high j (omega arith) (omega arith);
      }

  no_more : (m i : ℕ) → i + suc m ≤ n → c ≤ due_at lay b i → Prefix (suc m) i 0
  no_more m i h g =
      record {
        most = omega arith;
        low = λ j p l. absurd (omega arith);
        high = λ j p l. later j (omega arith) l;
      }
    where
      later : (j : ℕ) → i ≤ j → j < i + suc m → c ≤ due_at lay b j
      later j p l =
          let e : i + (j - i) ≡ j = omega arith in
          le_trans g (subst (λ (x : ℕ). due_at lay b i ≤ due_at lay b x) e (due-order a (j - i) i (omega arith)))

  prefix : (m i : ℕ) → i + m ≤ n → Prefix m i (amount m i)
  unfolding writes_from due_before write_at
  prefix zero i h = record { most = omega arith; low = λ j p l. absurd (omega arith); high = λ j p l. absurd (omega arith) }
  prefix (suc m) i h =
      ways (λ (x : ℕ). Prefix (suc m) i (x + amount m (suc i))) (ltb (due_at lay b i) c)
      (λ t. one_more m i (amount m (suc i)) (ltb-true _ _ t) (prefix m (suc i) (omega arith)))
      (λ f. rw (none-due m (suc i) (omega arith) (λ p. le_trans (ltb-false _ _ f) (due-rises a i (omega arith)))) (no_more m i h (ltb-false _ _ f)))

  -- the number of entries due before c
  abbrev number-due : ℕ
  number-due = amount n 0

  all : Prefix n 0 number-due
  all = prefix n 0 (omega arith)

  earlier-due : (t : ℕ) → ((j : ℕ) → 0 ≤ j → j < 0 + t → due_at lay b j < c) → (eqb t 0 || ltb (due_earlier lay b t) c) ≡ true
  unfolding due_earlier
  earlier-due zero l = refl
  earlier-due (suc u) l = rw (lt-ltb (due_at lay b u) c (l u (omega arith) (omega arith))) (or-true (eqb (suc u) 0))

  next-due : (leb n number-due || leb c (due_at lay b number-due)) ≡ true
  next-due = go (leb n number-due) refl
    where
      go : (t : Bool) → leb n number-due ≡ t → (t || leb c (due_at lay b number-due)) ≡ true
      go true e = refl
      go false e = le-leb _ _ (all.high number-due (omega arith) (omega (arith, leb-false n number-due e)))

  stands_here : stands_at lay b n c number-due ≡ true
  unfolding stands_at
  stands_here = both (both (le-leb _ _ all.most) (earlier-due number-due all.low)) next-due

  -- no other number stands there

  not-below : (t : ℕ) → t < number-due → (leb n t || leb c (due_at lay b t)) ≡ true → ⊥
  not-below t h e =
      let g : (leb n t || leb c (due_at lay b t)) ≡ false =
      rw (lt-leb n t (omega (arith, all.most)), lt-leb c (due_at lay b t) (all.low t (omega arith) (omega arith))) in
      true≢false (sym e ∙ g)

  not-above : (t : ℕ) → number-due < t → t ≤ n → (eqb t 0 || ltb (due_earlier lay b t) c) ≡ true → ⊥
  unfolding due_earlier
  not-above zero h l e = omega arith
  not-above (suc u) h l e =
      let g : (eqb (suc u) 0 || ltb (due_at lay b u) c) ≡ false =
      rw (ne_eqb (suc u) 0 (omega arith), le-ltb (due_at lay b u) c (all.high u (omega arith) (omega arith))) in
      true≢false (sym e ∙ g)

  stands-only : (t : ℕ) → stands_at lay b n c t ≡ true → t ≡ number-due
  unfolding stands_at
  stands-only t s =
      each (leb t n) ((eqb t 0 || ltb (due_earlier lay b t) c) ∷ (leb n t || leb c (due_at lay b t)) ∷ []) s
      (λ f.
      let low : t < number-due → ⊥ = λ h. not-below t h f.1.1.0 in
      let high : number-due < t → ⊥ = λ h. not-above t h (leb-true _ _ f.0) f.1.0 in
      omega arith)

  -- two reads of an accepted log tell whether t is the number of entries due before c
  pub stands : (t : ℕ) → stands_at lay b n c t ≡ eqb t number-due
  stands t = go (stands_at lay b n c t) refl
    where
      go : (s : Bool) → stands_at lay b n c t ≡ s → s ≡ eqb t number-due
      go true e = sym (eq-eqb _ _ (stands-only t e))
      go false e = sym (ne_eqb _ _ (λ q. true≢false (sym stands_here ∙ subst (λ (x : ℕ). stands_at lay b n c x ≡ false) q e)))

-- both promises of `stands_at`
pub both-stand : (l : Layout) (b : List ℕ) (count cycle t : ℕ) {r : Bool} → r ≡ stands_at l b count cycle t → (r ≡ stands_at l b count cycle t) × ((k : ℕ) → check_of l b ≡ log_with count k → r ≡ eqb t (due_before (writes_from l b count 0) cycle))
both-stand l b count cycle t e = (e, λ k c. e ∙ stands (accepted l b count k c) cycle t)

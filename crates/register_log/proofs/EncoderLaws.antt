-- Laws of specs/Encoder.antt: sound bytes are accepted, and a log made of writes reads back as those writes.
use Prim.Native.Nat.{ℕ, zero, suc, ◌+◌, ◌*◌, ◌^◌, ◌<◌, ◌≤◌}
use mathlib.Core.Path.{◌≡◌, refl, sym, ap, subst, ◌∙◌}
use mathlib.Core.Bool.{false}
use mathlib.Core.List.{List, [], ◌∷◌, ◌++◌, append_assoc, append-nil}
use native.Mathlib.Nat.{mul-suc, mul-zero, zero-add}
use native.Mathlib.Omega.{arith}
use borrow.Author.Tests.{le-ltb, lt-leb, eq-eqb}
use lib.ListN.{drop, get_or, length, length-append}
use lib.Seq.{drop-append-add, drop_at, drop-drop, ext_get_or, get_or-append-add, get_or-drop}
use Rattle.little.specs.Little.{bytes, front, number}
use Rattle.little.proofs.LittleLaws.{bytes-length, front_bytes}
use Rattle.refusal.specs.Refusal.{fault, ◌then◌}
use Rattle.register_log.specs.Log.{Layout, check_of, count_of, cycles_of, due_at, due_earlier, edition1, edition_of, entries_answer, entry_faulty, entry_place, entry_unfit, header_of, log_answer, most_entries, offset_of, write_at, writes_from, writes_of, log_with}
use Rattle.register_log.specs.Encoder.{entries_bytes, entry_bytes, header_bytes, log_of}
use Rattle.register_log.specs.declared.Write.{Write}
use Rattle.register_log.proofs.AcceptedLaws.{Accepted, writes_at, writes-length}
use Rattle.std.specs.Prelude.{Ok}

-- Sound bytes are accepted: the converse of `accepted`.

entries-pass : (l : Layout) (b : List ℕ) (cycles n i : ℕ) → ((j : ℕ) → i ≤ j → j < i + n → entry_faulty l b cycles j ≡ false) → entries_answer l b cycles n i ≡ Ok tt
unfolding entries_answer fault ◌then◌
entries-pass l b cycles zero i h = refl
entries-pass l b cycles (suc n) i h =
    rw (h i (omega arith) (omega arith)) (entries-pass l b cycles n (suc i) (λ j p q. h j (omega arith) (omega arith)))

pub log-passes : {l : Layout} {b : List ℕ} {n k : ℕ} → Accepted l b n k → log_answer l b ≡ Ok tt
unfolding log_answer fault ◌then◌
log-passes {l} {b} {n} {k} a =
    rw (a.count, a.cycles, a.size, a.edition, a.header, a.offset, le-ltb (entry_place l n) l.header (omega arith), eq-eqb l.edition l.edition refl, eq-eqb l.header l.header refl, le-ltb most_entries n a.most, eq-eqb (entry_place l n) (entry_place l n) refl)
    (entries-pass l b k n 0 (λ j p q. a.sound j (omega arith)))

pub accepts : {l : Layout} {b : List ℕ} {n k : ℕ} → Accepted l b n k → check_of l b ≡ log_with n k
unfolding check_of
accepts a = rw (log-passes a, a.count, a.cycles)

-- A layout whose sizes are those of its fields.

pub record Laid (l : Layout) : Type 0 where
  pub edition : l.edition < 65536
  pub header : l.header ≡ 12 + l.due
  pub small : l.header < 65536
  pub entry : l.entry ≡ l.due + 4

pub laid-1 : Laid edition1
laid-1 = record { edition = omega arith; header = refl; small = omega arith; entry = refl }

-- a write whose due cycle and address fit their fields
pub record Fits (l : Layout) (w : Write) : Type 0 where
  pub due : w.due < 256 ^ l.due
  pub address : w.address < 65536

-- Writes that make a log of length k: they fit, "Due cycles never fall and are below L. Count at most 1,000,000".
pub record Sound (l : Layout) (d : Write) (ws : List Write) (k : ℕ) : Type 0 where
  pub most : length ws ≤ most_entries
  pub cycles : k < 256 ^ l.due
  pub fits : (i : ℕ) → i < length ws → Fits l (get_or ws i d)
  pub below : (i : ℕ) → i < length ws → (get_or ws i d).due < k
  pub rises : (i : ℕ) → suc i < length ws → (get_or ws i d).due ≤ (get_or ws (suc i) d).due

-- sizes

pub header-length : (l : Layout) (n k : ℕ) → length (header_bytes l n k) ≡ 12 + l.due
unfolding header_bytes bytes
header-length l n k = omega (arith, bytes-length l.due k)

pub entry_length : (l : Layout) (w : Write) → length (entry_bytes l w) ≡ l.due + 4
unfolding entry_bytes bytes
entry_length l w = length-append (bytes l.due w.due) _ ∙ omega (arith, bytes-length l.due w.due)

-- one entry more
pub entries-append : (l : Layout) (ws : List Write) (w : Write) → entries_bytes l (ws ++ (w ∷ [])) ≡ entries_bytes l ws ++ entry_bytes l w
unfolding entries_bytes
entries-append l [] w = append-nil (entry_bytes l w)
entries-append l (v ∷ ws) w = ap (λ (r : List ℕ). entry_bytes l v ++ r) (entries-append l ws w) ∙ sym (append_assoc (entry_bytes l v) (entries_bytes l ws) (entry_bytes l w))

module _ {l : Layout} (laid : Laid l) where
  pub entries-length : (ws : List Write) → length (entries_bytes l ws) ≡ l.entry * length ws
  unfolding entries_bytes
  entries-length [] = sym (mul-zero l.entry)
  entries-length (w ∷ ws) =
      length-append (entry_bytes l w) (entries_bytes l ws)
      ∙ omega (arith, entry_length l w, laid.entry, entries-length ws, mul-suc l.entry (length ws))

  pub log-length : (ws : List Write) (k : ℕ) → length (log_of l ws k) ≡ entry_place l (length ws)
  unfolding log_of
  log-length ws k =
      length-append (header_bytes l (length ws) k) (entries_bytes l ws)
      ∙ omega (arith, header-length l (length ws) k, laid.header, entries-length ws)

-- The header, read back.

module _ (l : Layout) (n k : ℕ) (rest : List ℕ) where
  abbrev headed : List ℕ
  headed = header_bytes l n k ++ rest

  edition-back : l.edition < 65536 → edition_of headed ≡ l.edition
  unfolding header_bytes bytes
  edition-back h = front_bytes 2 l.edition (drop 2 headed) h

  header-back : l.header < 65536 → header_of headed ≡ l.header
  unfolding header_bytes bytes
  header-back h = front_bytes 2 l.header (drop 4 headed) h

  count-back : n < 4294967296 → count_of headed ≡ n
  unfolding header_bytes bytes
  count-back h = front_bytes 4 n (drop 8 headed) h

  offset-back : l.header < 65536 → offset_of headed ≡ l.header
  unfolding header_bytes bytes
  offset-back h = front_bytes 4 l.header (drop 12 headed) (omega arith)

  cycles-back : k < 256 ^ l.due → cycles_of l headed ≡ k
  unfolding header_bytes bytes
  cycles-back h = front_bytes l.due k rest h

-- An entry, read back where its bytes stand.

module _ (l : Layout) (w : Write) (b rest : List ℕ) (at : ℕ) (stands : drop at b ≡ entry_bytes l w ++ rest) where
  -- its bytes behind the due cycle's
  abbrev later : List ℕ
  later = bytes 2 w.address ++ (w.byte ∷ 0 ∷ []) ++ rest

  split : drop at b ≡ bytes l.due w.due ++ later
  unfolding entry_bytes bytes
  split = stands ∙ append_assoc (bytes l.due w.due) (bytes 2 w.address ++ (w.byte ∷ 0 ∷ [])) rest

  due-back : Fits l w → number l.due b at ≡ w.due
  due-back f = ap (front l.due) split ∙ front_bytes l.due w.due later f.due

  address-back : Fits l w → number 2 b (at + l.due) ≡ w.address
  unfolding bytes
  address-back f =
      ap (front 2) (sym (drop-drop l.due at b) ∙ ap (drop l.due) split ∙ drop_at (bytes l.due w.due) later l.due (bytes-length l.due w.due))
      ∙ front_bytes 2 w.address (w.byte ∷ 0 ∷ rest) f.address

  byte_at : (i : ℕ) → get_or b (at + (l.due + i)) 0 ≡ get_or later i 0
  byte_at i =
      sym (get_or-drop at b (l.due + i) 0)
      ∙ ap (λ (x : List ℕ). get_or x (l.due + i) 0) split
      ∙ subst (λ (m : ℕ). get_or (bytes l.due w.due ++ later) (m + i) 0 ≡ get_or later i 0) (bytes-length l.due w.due) (get_or-append-add (bytes l.due w.due) later i 0)

  byte-back : get_or b (at + (l.due + 2)) 0 ≡ w.byte
  unfolding bytes
  byte-back = byte_at 2

  zero-back : get_or b (at + (l.due + 3)) 0 ≡ 0
  unfolding bytes
  zero-back = byte_at 3

-- Where the entries stand.

module _ {l : Layout} (laid : Laid l) (d : Write) where
  entries_at : (ws : List Write) (i : ℕ) → i < length ws → drop (l.entry * i) (entries_bytes l ws) ≡ entry_bytes l (get_or ws i d) ++ drop (l.entry * suc i) (entries_bytes l ws)
  unfolding entries_bytes
  entries_at [] i h = absurd (omega arith)
  entries_at (w ∷ ws) zero h =
      let e : length (entry_bytes l w) ≡ l.entry * 1 = omega (arith, entry_length l w, laid.entry) in
      rw (mul-zero l.entry, drop_at (entry_bytes l w) (entries_bytes l ws) (l.entry * 1) e)
  entries_at (w ∷ ws) (suc i) h = past i ∙ entries_at ws i (omega arith) ∙ ap (λ (r : List ℕ). entry_bytes l (get_or ws i d) ++ r) (sym (past (suc i)))
    where
      past : (j : ℕ) → drop (l.entry * suc j) (entry_bytes l w ++ entries_bytes l ws) ≡ drop (l.entry * j) (entries_bytes l ws)
      past j =
          let e : l.entry * suc j ≡ length (entry_bytes l w) + l.entry * j = omega (arith, entry_length l w, laid.entry, mul-suc l.entry j) in
          rw e (drop-append-add (entry_bytes l w) (entries_bytes l ws) (l.entry * j))

  module _ (ws : List Write) (k : ℕ) where
    abbrev log : List ℕ
    log = log_of l ws k

    -- behind the header
    behind : (m : ℕ) → drop (l.header + m) log ≡ drop m (entries_bytes l ws)
    unfolding log_of
    behind m =
        let e : l.header + m ≡ length (header_bytes l (length ws) k) + m = omega (arith, header-length l (length ws) k, laid.header) in
        rw e (drop-append-add (header_bytes l (length ws) k) (entries_bytes l ws) m)

    entry-stands : (i : ℕ) → i < length ws → drop (entry_place l i) log ≡ entry_bytes l (get_or ws i d) ++ drop (l.entry * suc i) (entries_bytes l ws)
    entry-stands i h = behind (l.entry * i) ∙ entries_at ws i h

    module _ (fits : (i : ℕ) → i < length ws → Fits l (get_or ws i d)) where
      write-back : (i : ℕ) → i < length ws → write_at l log i ≡ get_or ws i d
      unfolding write_at due_at
      write-back i h =
          let s = entry-stands i h in
          let w : Write = get_or ws i d in
          let r : List ℕ = drop (l.entry * suc i) (entries_bytes l ws) in
          let p = entry_place l i in
          rw (due-back l w log r p s (fits i h), address-back l w log r p s (fits i h), byte-back l w log r p s)

      pub entries-back : writes_from l log (length ws) 0 ≡ ws
      entries-back =
          ext_get_or d (writes_from l log (length ws) 0) ws (writes-length l log (length ws) 0)
          (λ i h.
          let g : i < length ws = rw (writes-length l log (length ws) 0) at h in
          writes_at l log (length ws) 0 i d g ∙ ap (write_at l log) (zero-add i) ∙ write-back i g)

      -- reading takes apart what the encoder put together, sound or not
      pub writes-back : length ws < 4294967296 → writes_of l log ≡ ws
      unfolding log_of
      writes-back g = ap (λ (n : ℕ). writes_from l log n 0) (count-back l (length ws) k (entries_bytes l ws) g) ∙ entries-back

    module _ (s : Sound l d ws k) where
      count-here : count_of log ≡ length ws
      unfolding log_of
      count-here = count-back l (length ws) k (entries_bytes l ws) (omega (arith, s.most))

      due-here : (i : ℕ) → i < length ws → due_at l log i ≡ (get_or ws i d).due
      unfolding write_at
      due-here i h = ap (λ (w : Write). w.due) (write-back s.fits i h)

      earlier-here : (i : ℕ) → i < length ws → due_earlier l log i ≤ due_at l log i
      unfolding due_earlier
      earlier-here zero h = omega arith
      earlier-here (suc i) h = rw (due-here i (omega arith), due-here (suc i) h) (s.rises i h)

      entry-sound : (i : ℕ) → i < length ws → entry_faulty l log k i ≡ false
      unfolding entry_unfit
      entry-sound i h =
          let r : List ℕ = drop (l.entry * suc i) (entries_bytes l ws) in
          let below : due_at l log i < k = rw (due-here i h) (s.below i h) in
          rw (zero-back l (get_or ws i d) log r (entry_place l i) (entry-stands i h), lt-leb k (due_at l log i) below, le-ltb (due_at l log i) (due_earlier l log i) (earlier-here i h))

      -- and the check accepts it
      pub log-sound : Accepted l log (length ws) k
      unfolding log_of
      log-sound =
          record {
            edition = edition-back l (length ws) k (entries_bytes l ws) laid.edition;
            header = header-back l (length ws) k (entries_bytes l ws) laid.small;
            offset = offset-back l (length ws) k (entries_bytes l ws) laid.small;
            count = count-here;
            cycles = cycles-back l (length ws) k (entries_bytes l ws) s.cycles;
            most = s.most;
            size = log-length laid ws k;
            sound = entry-sound;
          }

      pub log-accepted : check_of l log ≡ log_with (length ws) k
      log-accepted = accepts log-sound

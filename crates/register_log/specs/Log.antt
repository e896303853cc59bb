-- The register log, in document 01's words.
use Rattle.std.specs.Prelude.{ℕ, zero, suc, ◌+◌, ◌*◌, Bool, cond, not, ◌&&◌, ◌||◌, List, [], ◌∷◌, eqb, leb, ltb, get_or, length, Option, Some, None, Result, Ok, Err}
use Rattle.little.specs.Little.{number}
use Rattle.refusal.specs.Refusal.{fault, ◌then◌, Answer}
use Rattle.refusal.specs.declared.Refusal.{Refusal}
use Rattle.refusal.specs.declared.Refusal.TheVariants.{LogShort, LogEdition, LogHeader, LogCount, LogSize, LogEntry}
use Rattle.register_log.specs.declared.Log.{Log}
use Rattle.register_log.specs.declared.Write.{Write}

-- How an edition lays its bytes out: its number, the header's and an entry's size, the width of a due cycle and of L.
pub record Layout : Type 0 where
  pub edition : ℕ
  pub header : ℕ
  pub entry : ℕ
  pub due : ℕ

-- "u16 edition 1, u16 header length 16"; "Entry 8: u32 due cycle, u16 address, byte, zero"
abbrev pub edition1 : Layout
edition1 = record { edition = 1; header = 16; entry = 8; due = 4 }

-- Header: "u16 edition 1, u16 header length 16, u32 count, u32 entry offset 16, u32 length L in cycles"

abbrev pub edition_of : List ℕ → ℕ
edition_of b = number 2 b 0

abbrev pub header_of : List ℕ → ℕ
header_of b = number 2 b 2

abbrev pub count_of : List ℕ → ℕ
count_of b = number 4 b 4

abbrev pub offset_of : List ℕ → ℕ
offset_of b = number 4 b 8

abbrev pub cycles_of : Layout → List ℕ → ℕ
cycles_of l b = number l.due b 12

-- Entries.

abbrev pub entry_place : Layout → ℕ → ℕ
entry_place l i = l.header + l.entry * i

unfoldable pub due_at : Layout → List ℕ → ℕ → ℕ
due_at l b i = number l.due b (entry_place l i)

unfoldable pub write_at : Layout → List ℕ → ℕ → Write
write_at l b i =
    record { due = due_at l b i; address = number 2 b (entry_place l i + l.due); byte = get_or b (entry_place l i + (l.due + 2)) 0 }

-- the due cycle of the entry before, 0 for the first
unfoldable pub due_earlier : Layout → List ℕ → ℕ → ℕ
due_earlier l b zero = 0
due_earlier l b (suc i) = due_at l b i

-- an entry's last byte is not zero, its due cycle is not below L, or it falls below an earlier one
unfoldable pub entry_unfit : Layout → List ℕ → ℕ → ℕ → ℕ → Bool
entry_unfit l b cycles earlier i =
    not (eqb (get_or b (entry_place l i + (l.due + 3)) 0) 0) || leb cycles (due_at l b i) || ltb (due_at l b i) earlier

-- "Due cycles never fall": in a log the earlier one is that of the entry before
abbrev pub entry_faulty : Layout → List ℕ → ℕ → ℕ → Bool
entry_faulty l b cycles i = entry_unfit l b cycles (due_earlier l b i) i

-- The order of refusals.

-- 8, "entry at fault: carries the first such index": the n entries from i on
unfoldable pub entries_answer : Layout → List ℕ → ℕ → ℕ → ℕ → Answer
entries_answer l b cycles zero i = Ok tt
entries_answer l b cycles (suc n) i = fault (entry_faulty l b cycles i) (LogEntry i) then entries_answer l b cycles n (suc i)

-- "Count at most 1,000,000"
abbrev pub most_entries : ℕ
most_entries = 1000000

-- "log 3 to 8": "log under 16 bytes; edition; header length or entry offset; count; size", then the entries
unfoldable pub log_answer : Layout → List ℕ → Answer
log_answer l b =
    fault (ltb (length b) l.header) LogShort
    then fault (not (eqb (edition_of b) l.edition)) LogEdition
    then fault (not (eqb (header_of b) l.header) || not (eqb (offset_of b) l.header)) LogHeader
    then fault (ltb most_entries (count_of b)) LogCount
    then fault (not (eqb (length b) (entry_place l (count_of b)))) LogSize
    then entries_answer l b (cycles_of l b) (count_of b) 0

-- what a check answers: the number of entries and L, or the refusal

abbrev pub Checked : Type 0
Checked = Result Log Refusal

-- an accepted log of so many entries and cycles
abbrev pub log_with : ℕ → ℕ → Checked
log_with count cycles = Ok (record { count = count; cycles = cycles })

abbrev pub checked_by : Answer → ℕ → ℕ → Checked
checked_by (Ok done) count cycles = log_with count cycles
checked_by (Err why) count cycles = Err why

unfoldable pub check_of : Layout → List ℕ → Checked
check_of l b = checked_by (log_answer l b) (count_of b) (cycles_of l b)

abbrev pub checked_answer : Checked → Answer
checked_answer (Ok log) = Ok tt
checked_answer (Err why) = Err why

-- Writes.

-- the writes of the n entries from i on
unfoldable pub writes_from : Layout → List ℕ → ℕ → ℕ → List Write
writes_from l b zero i = []
writes_from l b (suc n) i = write_at l b i ∷ writes_from l b n (suc i)

abbrev pub writes_of : Layout → List ℕ → List Write
writes_of l b = writes_from l b (count_of b) 0

-- "the number of entries due before it"
unfoldable pub due_before : List Write → ℕ → ℕ
due_before [] cycle = 0
due_before (w ∷ ws) cycle = cond (ltb w.due cycle) 1 0 + due_before ws cycle

-- "Reading a log entry past the last answers that the log has ended."; bytes that are no log are refused

-- what a read answers: a write, that the log has ended, or the refusal
abbrev pub Read : Type 0
Read = Result (Option Write) Refusal

-- the write at a place of a list, or that the list has ended
unfoldable pub handed : List Write → ℕ → Read
handed [] i = Ok None
handed (w ∷ ws) zero = Ok (Some w)
handed (w ∷ ws) (suc i) = handed ws i

unfoldable pub entry_in : Layout → Checked → List ℕ → ℕ → Read
entry_in l (Ok log) b i = handed (writes_from l b log.count 0) i
entry_in l (Err why) b i = Err why

abbrev pub entry_of : Layout → List ℕ → ℕ → Read
entry_of l b i = entry_in l (check_of l b) b i

-- what counting the entries due before a cycle answers
abbrev pub Counted : Type 0
Counted = Result ℕ Refusal

unfoldable pub count_in : Layout → Checked → List ℕ → ℕ → Counted
count_in l (Ok log) b cycle = Ok (due_before (writes_from l b log.count 0) cycle)
count_in l (Err why) b cycle = Err why

abbrev pub due_before_of : Layout → List ℕ → ℕ → Counted
due_before_of l b cycle = count_in l (check_of l b) b cycle

-- the answer of a read, and of a count

abbrev pub entry_answer : Read → Answer
entry_answer (Ok (Some w)) = Ok tt
entry_answer (Ok None) = Ok tt
entry_answer (Err why) = Err why

abbrev pub counted_answer : Counted → Answer
counted_answer (Ok n) = Ok tt
counted_answer (Err why) = Err why

-- A reader's place after a read: one on where it stands at an entry, else the same.
unfoldable pub place_after : Checked → ℕ → ℕ
place_after (Ok log) i = cond (ltb i log.count) (suc i) i
place_after (Err why) i = i

-- What inner contracts and a quick test of the code go by; nothing to believe.

-- Whether k is the number of entries due before a cycle, by two of an accepted log's entries: the last of the first k is due
-- before it, and the one after them is not.
unfoldable pub stands_at : Layout → List ℕ → ℕ → ℕ → ℕ → Bool
stands_at l b count cycle k =
    leb k count && (eqb k 0 || ltb (due_earlier l b k) cycle) && (leb count k || leb cycle (due_at l b k))

-- how many entries a reader has to hand out
abbrev pub entries_in : Checked → ℕ
entries_in (Ok log) = log.count
entries_in (Err why) = 0

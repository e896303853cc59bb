-- The panel recorder, in document 02's words: a record of how many entries there are and the due cycle of the last, and three calls
-- over a lent buffer. Each call has one order of refusals, and by its first fault, or none, one definition gives the record, the answer
-- and every byte of the buffer.
use Rattle.std.specs.Prelude.{ℕ, suc, not, ◌&&◌, List, eqb, leb, ltb, length, Ok, Err}
use Rattle.std.proofs.lemmas.List.Edits.{sets}
use Rattle.register_log.specs.Log.{Layout, entry_place, most_entries}
use Rattle.register_log.specs.Encoder.{entry_bytes, header_bytes}
use Rattle.register_log.specs.declared.Write.{Write}
use Rattle.refusal.specs.Refusal.{fault, ◌then◌, Answer}
use Rattle.refusal.specs.declared.Refusal.TheVariants.{Room, LogCount, CycleEarlier, LengthShort}
use Rattle.recorder.specs.declared.Recorder.{Recorder}

-- the record that a call hands back, and how it ended
pub record Turn : Type 0 where
  pub recorder : Recorder
  pub answer : Answer

-- what a call leaves: the record and the answer, and the buffer
pub record Gives : Type 0 where
  pub turn : Turn
  pub buffer : List ℕ

-- a call that makes q of the record r, and c of the buffer b; a refused one hands back the given record and writes nothing
unfoldable pub gives_by : Answer → Recorder → List ℕ → Recorder → List ℕ → Gives
gives_by (Ok done) r b q c = record { turn = record { recorder = q; answer = Ok tt }; buffer = c }
gives_by (Err why) r b q c = record { turn = record { recorder = r; answer = Err why }; buffer = b }

-- Start: "2 for a buffer under 16 bytes". It is given no record; a refused one hands back a record without entries too.

abbrev pub none : Recorder
none = record { entries = 0; last = 0 }

unfoldable pub start_answer : Layout → ℕ → Answer
start_answer l room = fault (ltb room l.header) Room

abbrev pub start_of : Layout → List ℕ → Gives
start_of l b = gives_by (start_answer l (length b)) none b none b

-- Add: "17 for a cycle earlier than the last, then 6 for entry 1,000,001, then 2 for no room". It writes its own entry. A record without
-- entries has no last due cycle.

unfoldable pub add_answer : Layout → Recorder → ℕ → ℕ → Answer
add_answer l r cycle room =
    fault (not (eqb r.entries 0) && ltb cycle r.last) CycleEarlier
    then fault (leb most_entries r.entries) LogCount
    then fault (ltb room (entry_place l (suc r.entries))) Room

abbrev pub add_of : Layout → Recorder → Write → List ℕ → Gives
add_of l r w b =
    gives_by (add_answer l r w.due (length b)) r b (record { entries = suc r.entries; last = w.due })
    (sets b (entry_place l r.entries) (entry_bytes l w))

-- Finish: "18 for a length not above the last due cycle (any length will do with no entries), then 6 for a record of more than 1,000,000
-- entries, then 2 if the buffer can't hold the log". It writes the header; the record stays, so that more can be added.

unfoldable pub finish_answer : Layout → Recorder → ℕ → ℕ → Answer
finish_answer l r cycles room =
    fault (not (eqb r.entries 0) && leb cycles r.last) LengthShort
    then fault (ltb most_entries r.entries) LogCount
    then fault (ltb room (entry_place l r.entries)) Room

abbrev pub finish_of : Layout → Recorder → ℕ → List ℕ → Gives
finish_of l r cycles b = gives_by (finish_answer l r cycles (length b)) r b r (sets b 0 (header_bytes l r.entries cycles))

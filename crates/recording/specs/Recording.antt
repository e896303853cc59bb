-- What a recording is: any list of start, add and finish calls over any buffer, refused ones among them, each given the record that
-- the last one returned, and nobody else writing the buffer. Of it 02 says: "what it finishes is accepted by the opener, and a player run
-- over it passes through the states of a unit given those writes at those cycles from power-on. Nothing beyond the log's bytes is
-- written. A finished log read entry by entry gives the writes added, in order."
use Rattle.std.specs.Prelude.{ℕ, suc, max, ◌<◌, ◌≡◌, not, ◌&&◌, List, [], ◌∷◌, ◌++◌, eqb, leb, ltb, drop, length, take, Ok, Err}
use Rattle.deck.specs.Calls as deck
use Rattle.deck.specs.Player.{fresh, open_of}
use Rattle.register_log.specs.Log.{check_of, edition1, entry_of, entry_place, handed, most_entries, writes_of, log_with}
use Rattle.register_log.specs.Encoder.{log_of}
use Rattle.register_log.specs.declared.Write.{Write}
use Rattle.refusal.specs.Refusal.{fault, ◌then◌, Answer}
use Rattle.refusal.specs.declared.Refusal.TheVariants.{Room, LogCount, CycleEarlier, LengthShort}
use Rattle.recorder.specs.Recorder.{Gives, add_of, finish_of, start_of}
use Rattle.recorder.specs.declared.Recorder.{Recorder}

-- a call, with what it is given besides the record and the buffer
pub data Call : Type 0 where
  start : Call
  add : Write → Call
  finish : ℕ → Call

-- the numbers of a call are of their types: a 32-bit cycle or length, "16-bit address, byte"
abbrev pub Typed : Call → Type 0
Typed start = Unit
Typed (add w) = (w.due < 4294967296) × (w.address < 65536) × (w.byte < 256)
Typed (finish cycles) = cycles < 4294967296

abbrev pub AllTyped : List Call → Type 0
AllTyped [] = Unit
AllTyped (c ∷ cs) = Typed c × AllTyped cs

-- what the calls pass on
pub record Tape : Type 0 where
  pub recorder : Recorder
  pub buffer : List ℕ

-- what a call gives, by its contract
unfoldable pub gives : Call → Tape → Gives
gives start t = start_of edition1 t.buffer
gives (add w) t = add_of edition1 t.recorder w t.buffer
gives (finish cycles) t = finish_of edition1 t.recorder cycles t.buffer

-- its answer
abbrev pub answer_of : Call → Tape → Answer
answer_of c t = (gives c t).turn.answer

abbrev pub kept : Gives → Tape
kept g = record { recorder = g.turn.recorder; buffer = g.buffer }

-- the record and the buffer after it
abbrev pub after : Call → Tape → Tape
after c t = kept (gives c t)

-- after calls, the first one first
unfoldable pub after_all : List Call → Tape → Tape
after_all [] t = t
after_all (c ∷ cs) t = after_all cs (after c t)

-- What the calls add, by document 02 alone: no recorder is asked. The writes since the start, and how many bytes the longest log so far
-- has.

pub record Added : Type 0 where
  pub writes : List Write
  pub longest : ℕ

abbrev pub nothing : Added
nothing = record { writes = []; longest = edition1.header }

-- the due cycle of the last write; 0 without any, which no cycle is earlier than
unfoldable pub last_due : List Write → ℕ
last_due [] = 0
last_due (w ∷ []) = w.due
last_due (w ∷ v ∷ ws) = last_due (v ∷ ws)

-- the answer to a call there, in 02's order: with the writes since the start and the buffer's size
unfoldable pub answer_at : ℕ → Call → List Write → Answer
answer_at room start ws = fault (ltb room edition1.header) Room
answer_at room (add w) ws =
    fault (ltb w.due (last_due ws)) CycleEarlier
    then fault (leb most_entries (length ws)) LogCount
    then fault (ltb room (entry_place edition1 (suc (length ws)))) Room
answer_at room (finish cycles) ws =
    fault (not (eqb (length ws) 0) && leb cycles (last_due ws)) LengthShort
    then fault (ltb most_entries (length ws)) LogCount
    then fault (ltb room (entry_place edition1 (length ws))) Room

-- a start begins with no writes, an add adds its own behind the others
unfoldable pub adds : Call → Added → Added
adds start m = record { writes = []; longest = m.longest }
adds (add w) m = record { writes = m.writes ++ (w ∷ []); longest = max m.longest (entry_place edition1 (suc (length m.writes))) }
adds (finish cycles) m = m

-- a refused call adds nothing; a refused start too hands out a record without entries
unfoldable pub adds_by : Answer → Call → Added → Added
adds_by (Ok done) c m = adds c m
adds_by (Err why) start m = adds start m
adds_by (Err why) (add w) m = m
adds_by (Err why) (finish cycles) m = m

unfoldable pub adds_all : ℕ → List Call → Added → Added
adds_all room [] m = m
adds_all room (c ∷ cs) m = adds_all room cs (adds_by (answer_at room c m.writes) c m)

-- What a finished log is: the bytes of the writes that were added.
pub record Finished (log : List ℕ) (ws : List Write) (cycles : ℕ) : Type 0 where
  pub bytes : log ≡ log_of edition1 ws cycles
  -- "what it finishes is accepted by the opener", with that length as L and the added count
  pub opens : open_of log ≡ record { player = fresh; answer = Ok tt }
  pub told : check_of edition1 log ≡ log_with (length ws) cycles
  -- "read entry by entry gives the writes added, in order"
  pub writes : writes_of edition1 log ≡ ws
  pub entry : (i : ℕ) → entry_of edition1 log i ≡ handed ws i
  -- "a player run over it passes through the states of a unit given those writes at those cycles from power-on"
  pub plays : (memory : List ℕ) (cs : List deck.Call) → deck.InRun log ws cycles (length memory) (deck.after_all log cs (deck.opened memory)) (deck.named_all ws cycles (length memory) cs deck.at_start)

-- What is so of a tape, where the calls have added m and began with the buffer b: its record tells the writes, the next call is
-- answered as 02 says, beyond the longest log the buffer is as it was, and an accepted finish leaves the writes as a log. A finish among
-- the calls is the one after those before it.
pub record Recorded (b : List ℕ) (t : Tape) (m : Added) : Type 0 where
  pub entries : t.recorder.entries ≡ length m.writes
  pub last : t.recorder.last ≡ last_due m.writes
  pub answers : (c : Call) → answer_of c t ≡ answer_at (length b) c m.writes
  pub spared : drop m.longest t.buffer ≡ drop m.longest b
  pub finishes : (cycles : ℕ) → Typed (finish cycles) → answer_at (length b) (finish cycles) m.writes ≡ Ok tt → Finished (take (entry_place edition1 (length m.writes)) (after (finish cycles) t).buffer) m.writes cycles

-- adds and finishes alone, as between one start and the next
abbrev pub NoStart : List Call → Type 0
NoStart [] = Unit
NoStart (start ∷ cs) = ⊥
NoStart (add w ∷ cs) = NoStart cs
NoStart (finish cycles ∷ cs) = NoStart cs

-- The player, in document 01's words: a record, and the calls. Each call has one order of refusals, and by its first fault, or none,
-- one definition gives the record, the count, the answer and what the lent memory holds afterwards.
use Rattle.std.specs.Prelude.{ℕ, ◌+◌, ◌-◌, ◌*◌, Bool, cond, not, ◌&&◌, List, ◌++◌, length, take, drop, ℤ, ◌==◌, nat_le, nat_lt, Result, Ok, Err}
use Rattle.std.proofs.lemmas.List.Edits.{sets}
use Rattle.little.specs.Little.{bytes, number}
use Rattle.register_log.specs.Log.{checked_by, count_of, cycles_of, due_before, edition1, log_answer, writes_of, Checked}
use Rattle.register_log.specs.declared.Write.{Write}
use Rattle.image.specs.Image.{image_of, read_answer, read_of}
use Rattle.marks.specs.Marks.{is_set, lowest_free, with_mark, without_mark}
use Rattle.refusal.specs.Refusal.{fault, ◌then◌, Answer}
use Rattle.refusal.specs.declared.Refusal.{Refusal}
use Rattle.refusal.specs.declared.Refusal.TheVariants.{State, Room, BeyondEnd, Place, MarkNumber, MarkUnset, MarksFull}
use Rattle.table.specs.Table.{newest}
use Rattle.vsu.specs.Core.{fits_in, frames_due, power_on, sides, unit_answer, with_mutes}
use Rattle.deck.specs.Unbroken.{counts_of, frames_on, moments_on, no_counts, run_on}
use Rattle.deck.specs.declared.Counts.{Counts}
use Rattle.deck.specs.declared.Played.{Played}
use Rattle.deck.specs.declared.Player.{Player}

-- A lent log: its writes and its L.

abbrev pub writes_in : List ℕ → List Write
writes_in b = writes_of edition1 b

abbrev pub length_in : List ℕ → ℕ
length_in b = cycles_of edition1 b

-- "Opening gives power-on, cycle 0, no marks."
abbrev pub fresh : Player
fresh = record { unit = power_on; cycle = 0; applied = 0; marks = 0 }

-- the record after a call, and how it ended
pub record Turn : Type 0 where
  pub player : Player
  pub answer : Answer

-- "A refused call hands back the given record": what a call answers that makes q of p.
unfoldable pub turn_by : Answer → Player → Player → Turn
turn_by (Ok done) p q = record { player = q; answer = Ok tt }
turn_by (Err why) p q = record { player = p; answer = Err why }

-- Opening: the log's own; "a refused opening hands back the power-on record".
abbrev pub open_of : List ℕ → Turn
open_of b = turn_by (log_answer edition1 b) fresh fresh

-- 13: "cycle above L, or applied isn't the number of entries due before it"
unfoldable pub misplaced : List ℕ → ℕ → ℕ → Bool
misplaced b cycle applied = not (nat_le cycle (length_in b) && applied == due_before (writes_in b) cycle)

-- "log 3 to 8, record 1 then 13"
unfoldable pub standing_answer : Player → List ℕ → Answer
standing_answer p b =
    log_answer edition1 b
    then unit_answer p.unit
    then fault (misplaced b p.cycle p.applied) Place

-- a record n cycles on
unfoldable pub moved_on : List Write → Player → ℕ → Player
moved_on ws p n =
    record {
      unit = run_on ws p.cycle p.unit n;
      cycle = p.cycle + n;
      applied = due_before ws (p.cycle + n);
      marks = p.marks;
    }

-- Play: "then 12, then frame room 2". "Frames fill the buffer's front, left first; the rest keeps its bytes." "Play answers with the number
-- of each sort in its span".

unfoldable pub play_answer : Player → ℕ → List ℕ → ℕ → Answer
play_answer p n b room =
    standing_answer p b
    then fault (nat_lt (length_in b) (p.cycle + n)) BeyondEnd
    then fault (not (fits_in n p.unit room)) Room

-- as a turn, of a play, with the number of its frames and what the entries of its span said
pub record PlayTurn : Type 0 where
  pub player : Player
  pub frames : ℕ
  pub counts : Counts
  pub answer : Answer

pub record PlayGives : Type 0 where
  pub played : PlayTurn
  pub out : List ℤ

unfoldable pub play_by : Answer → Player → ℕ → List ℕ → List ℤ → PlayGives
play_by (Ok done) p n b out =
    record {
      played =
          record {
            player = moved_on (writes_in b) p n;
            frames = frames_due p.unit n;
            counts = counts_of (moments_on (writes_in b) p.cycle p.unit n);
            answer = Ok tt;
          };
      out = sides (frames_on (writes_in b) p.cycle p.unit n) ++ drop (frames_due p.unit n * 2) out;
    }
play_by (Err why) p n b out =
    record { played = record { player = p; frames = 0; counts = no_counts; answer = Err why }; out = out }

abbrev pub play_of : Player → ℕ → List ℕ → List ℤ → PlayGives
play_of p n b out = play_by (play_answer p n b (length out)) p n b out

-- the Result of such a call: a refused one has neither frames nor counts, as it made 0 of each
unfoldable pub made_by : Answer → PlayTurn → Result Played Refusal
made_by (Ok done) t = Ok (record { frames = t.frames; counts = t.counts })
made_by (Err why) t = Err why

abbrev pub made_of : PlayTurn → Result Played Refusal
made_of t = made_by t.answer t

-- how a call ended, of one that makes something
abbrev pub ended : {A : Type 0} → Result A Refusal → Answer
ended (Ok made) = Ok tt
ended (Err why) = Err why

-- Seek: then 12. It "runs on from the present cycle, or from power-on when the target is earlier"; the mutes are "kept by seek".

unfoldable pub seek_answer : Player → ℕ → List ℕ → Answer
seek_answer p target b = standing_answer p b then fault (nat_lt (length_in b) target) BeyondEnd

abbrev pub restarted : Player → Player
restarted p = record { unit = with_mutes power_on p.unit.mutes; cycle = 0; applied = 0; marks = p.marks }

unfoldable pub sought_from : List Write → Player → ℕ → Player
sought_from ws p target = cond (nat_le p.cycle target) (moved_on ws p (target - p.cycle)) (moved_on ws (restarted p) target)

abbrev pub seek_of : Player → ℕ → List ℕ → Turn
seek_of p target b = turn_by (seek_answer p target b) p (sought_from (writes_in b) p target)

-- Mark memory: "slot k at 428 × k is u32 cycle, u32 applied, image; 6,848 bytes in all".

abbrev pub applied_place : ℕ
applied_place = 4

abbrev pub image_place : ℕ
image_place = 8

abbrev pub slot_size : ℕ
slot_size = 428

abbrev pub memory_size : ℕ
memory_size = 6848

abbrev pub slot_place : ℕ → ℕ
slot_place slot = slot_size * slot

abbrev pub slot_of : Player → List ℕ
slot_of p = bytes 4 p.cycle ++ (bytes 4 p.applied ++ image_of newest p.unit)

abbrev pub slot_cycle : List ℕ → ℕ → ℕ
slot_cycle memory slot = number 4 memory (slot_place slot)

abbrev pub slot_applied : List ℕ → ℕ → ℕ
slot_applied memory slot = number 4 memory (slot_place slot + applied_place)

abbrev pub slot_image : List ℕ → ℕ → List ℕ
slot_image memory slot = take (slot_size - image_place) (drop (slot_place slot + image_place) memory)

abbrev pub with_marks : Player → ℕ → Player
with_marks p marks = record { unit = p.unit; cycle = p.cycle; applied = p.applied; marks = marks }

abbrev pub marked : Player → ℕ → Player
marked p slot = with_marks p (with_mark slot p.marks)

-- Set: "mark memory 2, then 14", or 16 where the lowest free slot is asked for: `above` is what a slot above 15 is refused by. "it
-- writes only that slot"

unfoldable pub set_answer : Refusal → Player → ℕ → List ℕ → ℕ → Answer
set_answer above p slot b size =
    standing_answer p b
    then fault (nat_lt size memory_size) Room
    then fault (nat_lt 15 slot) above

pub record SetGives : Type 0 where
  pub turn : Turn
  pub memory : List ℕ

unfoldable pub set_by : Answer → Player → ℕ → List ℕ → SetGives
set_by (Ok done) p slot memory =
    record { turn = record { player = marked p slot; answer = Ok tt }; memory = sets memory (slot_place slot) (slot_of p) }
set_by (Err why) p slot memory = record { turn = record { player = p; answer = Err why }; memory = memory }

abbrev pub set_of : Refusal → Player → ℕ → List ℕ → List ℕ → SetGives
set_of above p slot b memory = set_by (set_answer above p slot b (length memory)) p slot memory

-- "Set mark names a slot, in use or not, or asks for the lowest free one"

abbrev pub set_named : Player → ℕ → List ℕ → List ℕ → SetGives
set_named p slot b memory = set_of MarkNumber p slot b memory

abbrev pub set_lowest : Player → List ℕ → List ℕ → SetGives
set_lowest p b memory = set_of MarksFull p (lowest_free p.marks) b memory

-- Clear is lent "only the record": 1, then 14, 15. "Clear writes no memory".

unfoldable pub clear_answer : Player → ℕ → Answer
clear_answer p slot =
    unit_answer p.unit
    then fault (nat_lt 15 slot) MarkNumber
    then fault (not (is_set slot p.marks)) MarkUnset

abbrev pub clear_of : Player → ℕ → Turn
clear_of p slot = turn_by (clear_answer p slot) p (with_marks p (without_mark slot p.marks))

-- Go to: "mark memory 2, then 14, 15, 16, then the slot's 10, 11 (offset in its image), 13".

unfoldable pub go_to_answer : Player → ℕ → List ℕ → List ℕ → Answer
go_to_answer p slot b memory =
    standing_answer p b
    then fault (nat_lt (length memory) memory_size) Room
    then fault (nat_lt 15 slot) MarkNumber
    then fault (not (is_set slot p.marks)) MarkUnset
    then read_answer (slot_image memory slot)
    then fault (misplaced b (slot_cycle memory slot) (slot_applied memory slot)) Place

-- the mutes are "kept by .. go-to-mark": those in the slot's image are not taken
unfoldable pub in_slot : Player → List ℕ → ℕ → Player
in_slot p memory slot =
    record {
      unit = with_mutes (read_of (slot_image memory slot)).state p.unit.mutes;
      cycle = slot_cycle memory slot;
      applied = slot_applied memory slot;
      marks = p.marks;
    }

abbrev pub go_to_of : Player → ℕ → List ℕ → List ℕ → Turn
go_to_of p slot b memory = turn_by (go_to_answer p slot b memory) p (in_slot p memory slot)

-- Mute is lent "only the record": "1 for a record or a mute call with bits above 63".

unfoldable pub mute_answer : Player → ℕ → Answer
mute_answer p bits = unit_answer p.unit then fault (nat_lt 63 bits) State

abbrev pub muted : Player → ℕ → Player
muted p bits = record { unit = with_mutes p.unit bits; cycle = p.cycle; applied = p.applied; marks = p.marks }

abbrev pub mute_of : Player → ℕ → Turn
mute_of p bits = turn_by (mute_answer p bits) p (muted p bits)

-- What the code's inner contract goes by: the check that every call with a log makes, with the log's count and L where it is passed.
abbrev pub standing_of : Player → List ℕ → Checked
standing_of p b = checked_by (standing_answer p b) (count_of b) (length_in b)

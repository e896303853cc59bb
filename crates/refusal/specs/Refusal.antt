-- Document 01's table of refusals, and after its sixteen those of document 02: each case's number, and the value that it carries (0
-- where it carries none).
use Rattle.std.specs.Prelude.{ℕ, ◌≡◌, Bool, true, false, Result, Ok, Err}
use Rattle.refusal.specs.declared.Refusal.{Refusal}
use Rattle.refusal.specs.declared.Refusal.TheVariants.{State, Room, LogShort, LogEdition, LogHeader, LogCount, LogSize, LogEntry, ImageSize, ImageHeader, ImageField, BeyondEnd, Place, MarkNumber, MarkUnset, MarksFull, CycleEarlier, LengthShort}

abbrev pub number_of : Refusal → ℕ
number_of State = 1
number_of Room = 2
number_of LogShort = 3
number_of LogEdition = 4
number_of LogHeader = 5
number_of LogCount = 6
number_of LogSize = 7
number_of (LogEntry index) = 8
number_of ImageSize = 9
number_of ImageHeader = 10
number_of (ImageField offset) = 11
number_of BeyondEnd = 12
number_of Place = 13
number_of MarkNumber = 14
number_of MarkUnset = 15
number_of MarksFull = 16
number_of CycleEarlier = 17
number_of LengthShort = 18

abbrev pub carried_of : Refusal → ℕ
carried_of State = 0
carried_of Room = 0
carried_of LogShort = 0
carried_of LogEdition = 0
carried_of LogHeader = 0
carried_of LogCount = 0
carried_of LogSize = 0
carried_of (LogEntry index) = index
carried_of ImageSize = 0
carried_of ImageHeader = 0
carried_of (ImageField offset) = offset
carried_of BeyondEnd = 0
carried_of Place = 0
carried_of MarkNumber = 0
carried_of MarkUnset = 0
carried_of MarksFull = 0
carried_of CycleEarlier = 0
carried_of LengthShort = 0

-- How a call ended: accepted, or why it was refused.
abbrev pub Answer : Type 0
Answer = Result Unit Refusal

-- The same of an answer; an accepted call has number 0.

abbrev pub answer_number : Answer → ℕ
answer_number (Ok done) = 0
answer_number (Err r) = number_of r

abbrev pub answer_carried : Answer → ℕ
answer_carried (Ok done) = 0
answer_carried (Err r) = carried_of r

-- An order of refusals, in 01's words: "1, then 2" is `fault a State then fault b Room`. The first fault in the order is the answer;
-- without any the call is accepted.

unfoldable pub fault : Bool → Refusal → Answer
fault true why = Err why
fault false why = Ok tt

infixr 5 ◌then◌
unfoldable pub ◌then◌ : Answer → Answer → Answer
(Ok done) then later = later
(Err why) then later = Err why

-- an answer tells the number and the value of an order's first fault
abbrev pub Tells : Answer → Answer → Type 0
Tells answer order = (answer_number answer ≡ answer_number order) × (answer_carried answer ≡ answer_carried order)

-- Demand 3: after any play, seek, set, clear, go-to-mark and mute calls from a fresh opening, refused ones among them, the player
-- stands at the cycle the calls name, in the state that one unbroken run from power-on, cycle by cycle, has there, all but the mute
-- bits, which are those of the last mute call. Each accepted play yields exactly that run's frames in its span, with the present
-- mutes, and counts that run's entries in it by what they say.
use Rattle.std.specs.Prelude.{◌≡◌, ℕ, ◌+◌, ◌-◌, ◌*◌, ◌/◌, cond, not, List, [], ◌∷◌, ◌++◌, length, drop, ℤ, ◌==◌, nat_le, nat_lt, Ok, Err}
use Rattle.register_log.specs.Log.{due_before}
use Rattle.register_log.specs.declared.Write.{Write}
use Rattle.refusal.specs.Refusal.{fault, ◌then◌, Answer}
use Rattle.refusal.specs.declared.Refusal.TheVariants.{BeyondEnd, MarkNumber, MarkUnset, MarksFull, Room, State}
use Rattle.vsu.specs.Core.{sides, with_mutes}
use Rattle.marks.specs.Marks.{is_set, lowest_free, with_mark, without_mark}
use Rattle.deck.specs.Player.{SetGives, clear_answer, clear_of, fresh, go_to_answer, go_to_of, memory_size, mute_answer, mute_of, play_answer, play_of, seek_answer, seek_of, set_answer, set_lowest, set_named}
use Rattle.deck.specs.Unbroken.{counts_of, frames_in, in_all, moments_in, no_counts, state_at}
use Rattle.deck.specs.declared.Counts.{Counts}
use Rattle.deck.specs.declared.Player.{Player}

-- a call, with what it is given besides the record, the log and the mark memory: a play is lent a buffer
pub data Call : Type 0 where
  play : ℕ → List ℤ → Call
  seek : ℕ → Call
  set_mark : ℕ → Call
  set_free : Call
  clear : ℕ → Call
  go_to : ℕ → Call
  mute : ℕ → Call

-- what the calls pass on: each call is given the record that the last one returned, and only these calls write the mark memory
pub record Deck : Type 0 where
  pub player : Player
  pub memory : List ℕ

-- the answer of a call, by its contract
unfoldable pub answer_of : List ℕ → Call → Deck → Answer
answer_of b (play n out) d = play_answer d.player n b (length out)
answer_of b (seek t) d = seek_answer d.player t b
answer_of b (set_mark k) d = set_answer MarkNumber d.player k b (length d.memory)
answer_of b set_free d = set_answer MarksFull d.player (lowest_free d.player.marks) b (length d.memory)
answer_of b (clear k) d = clear_answer d.player k
answer_of b (go_to k) d = go_to_answer d.player k b d.memory
answer_of b (mute bits) d = mute_answer d.player bits

-- the record and the memory after a set
abbrev pub kept : SetGives → Deck
kept g = record { player = g.turn.player; memory = g.memory }

-- the record and the memory after it
unfoldable pub after : List ℕ → Call → Deck → Deck
after b (play n out) d = record { player = (play_of d.player n b out).played.player; memory = d.memory }
after b (seek t) d = record { player = (seek_of d.player t b).player; memory = d.memory }
after b (set_mark k) d = kept (set_named d.player k b d.memory)
after b set_free d = kept (set_lowest d.player b d.memory)
after b (clear k) d = record { player = (clear_of d.player k).player; memory = d.memory }
after b (go_to k) d = record { player = (go_to_of d.player k b d.memory).player; memory = d.memory }
after b (mute bits) d = record { player = (mute_of d.player bits).player; memory = d.memory }

-- the deck after calls, the first one first
unfoldable pub after_all : List ℕ → List Call → Deck → Deck
after_all b [] d = d
after_all b (c ∷ cs) d = after_all b cs (after b c d)

-- What the calls name, by the documents alone: no player is asked. The cycle, the marks that are set, the cycle at which each was last
-- set, the present mutes.

pub record Named : Type 0 where
  pub cycle : ℕ
  pub marks : ℕ
  pub mark : ℕ → ℕ
  pub mutes : ℕ

abbrev pub at_start : Named
at_start = record { cycle = 0; marks = 0; mark = λ (k : ℕ). 0; mutes = 0 }

-- the answer to a call there, in 01's order: with the writes and the length L of an accepted log, and the mark memory's size
unfoldable pub answer_at : List Write → ℕ → ℕ → Call → Named → Answer
answer_at ws cycles size (play n out) m =
    fault (nat_lt cycles (m.cycle + n)) BeyondEnd
    then fault (not (nat_le (length (frames_in ws m.mutes m.cycle (m.cycle + n))) (length out / 2))) Room
answer_at ws cycles size (seek t) m = fault (nat_lt cycles t) BeyondEnd
answer_at ws cycles size (set_mark k) m = fault (nat_lt size memory_size) Room then fault (nat_lt 15 k) MarkNumber
answer_at ws cycles size set_free m = fault (nat_lt size memory_size) Room then fault (nat_lt 15 (lowest_free m.marks)) MarksFull
answer_at ws cycles size (clear k) m = fault (nat_lt 15 k) MarkNumber then fault (not (is_set k m.marks)) MarkUnset
answer_at ws cycles size (go_to k) m =
    fault (nat_lt size memory_size) Room
    then fault (nat_lt 15 k) MarkNumber
    then fault (not (is_set k m.marks)) MarkUnset
answer_at ws cycles size (mute bits) m = fault (nat_lt 63 bits) State

-- at another cycle
abbrev pub at_cycle : ℕ → Named → Named
at_cycle t m = record { cycle = t; marks = m.marks; mark = m.mark; mutes = m.mutes }

-- mark k set at the present cycle
abbrev pub set_now : ℕ → Named → Named
set_now k m =
    record { cycle = m.cycle; marks = with_mark k m.marks; mark = λ (j : ℕ). cond (j == k) m.cycle (m.mark j); mutes = m.mutes }

-- a play adds n, a seek names t, a go-to names the cycle at which that mark was last set; set, clear and mute name none. Only a mute
-- call names mutes: they are "kept by seek and go-to-mark"
unfoldable pub names : Call → Named → Named
names (play n out) m = at_cycle (m.cycle + n) m
names (seek t) m = at_cycle t m
names (set_mark k) m = set_now k m
names set_free m = set_now (lowest_free m.marks) m
names (clear k) m = record { cycle = m.cycle; marks = without_mark k m.marks; mark = m.mark; mutes = m.mutes }
names (go_to k) m = at_cycle (m.mark k) m
names (mute bits) m = record { cycle = m.cycle; marks = m.marks; mark = m.mark; mutes = bits }

-- a refused call names nothing
unfoldable pub named_by : Answer → Call → Named → Named
named_by (Ok done) c m = names c m
named_by (Err why) c m = m

unfoldable pub named_all : List Write → ℕ → ℕ → List Call → Named → Named
named_all ws cycles size [] m = m
named_all ws cycles size (c ∷ cs) m = named_all ws cycles size cs (named_by (answer_at ws cycles size c m) c m)

-- What a play leaves in its buffer: the run's frames of its span, with the mutes, then the buffer's old elements; a refused one leaves it.
unfoldable pub yields : List Write → ℕ → ℕ → Answer → ℕ → List ℤ → List ℤ
yields ws mutes before (Ok done) n out =
    sides (frames_in ws mutes before (before + n)) ++ drop (length (frames_in ws mutes before (before + n)) * 2) out
yields ws mutes before (Err why) n out = out

-- how many frames it answers
unfoldable pub yields_count : List Write → ℕ → ℕ → Answer → ℕ → ℕ
yields_count ws mutes before (Ok done) n = length (frames_in ws mutes before (before + n))
yields_count ws mutes before (Err why) n = 0

-- how many entries of each sort: of those due in its span, each at its moment in the run
unfoldable pub yields_counts : List Write → ℕ → Answer → ℕ → Counts
yields_counts ws before (Ok done) n = counts_of (moments_in ws before (before + n))
yields_counts ws before (Err why) n = no_counts

-- how many entries those are in all
unfoldable pub yields_entries : List Write → ℕ → Answer → ℕ → ℕ
yields_entries ws before (Ok done) n = due_before ws (before + n) - due_before ws before
yields_entries ws before (Err why) n = 0

-- What demand 3 says of a deck, where the calls have named m: it stands in the run of the log's writes at the cycle named, with the
-- mutes named, the next call is answered as the documents say, and a play from there yields the run's frames with those mutes and counts
-- the run's writes by what they say. A play among the calls is the one after those before it.
pub record InRun (b : List ℕ) (ws : List Write) (cycles size : ℕ) (d : Deck) (m : Named) : Type 0 where
  pub cycle : d.player.cycle ≡ m.cycle
  pub unit : d.player.unit ≡ with_mutes (state_at ws m.cycle) m.mutes
  pub applied : d.player.applied ≡ due_before ws m.cycle
  pub marks : d.player.marks ≡ m.marks
  pub answers : (c : Call) → answer_of b c d ≡ answer_at ws cycles size c m
  pub plays : (n : ℕ) (out : List ℤ) → (play_of d.player n b out).out ≡ yields ws m.mutes m.cycle (answer_at ws cycles size (play n out) m) n out
  pub counts : (n : ℕ) (out : List ℤ) → (play_of d.player n b out).played.frames ≡ yields_count ws m.mutes m.cycle (answer_at ws cycles size (play n out) m) n
  pub sorts : (n : ℕ) (out : List ℤ) → (play_of d.player n b out).played.counts ≡ yields_counts ws m.cycle (answer_at ws cycles size (play n out) m) n
  pub entries : (n : ℕ) (out : List ℤ) → in_all (play_of d.player n b out).played.counts ≡ yields_entries ws m.cycle (answer_at ws cycles size (play n out) m) n

-- from a fresh opening, and any mark memory
abbrev pub opened : List ℕ → Deck
opened memory = record { player = fresh; memory = memory }

-- a call that neither sets nor clears mark k by its number
abbrev pub Spares : ℕ → Call → Type 0
Spares k (play n out) = Unit
Spares k (seek t) = Unit
Spares k (set_mark j) = k ≡ j → ⊥
Spares k set_free = Unit
Spares k (clear j) = k ≡ j → ⊥
Spares k (go_to j) = Unit
Spares k (mute bits) = Unit

abbrev pub AllSpare : ℕ → List Call → Type 0
AllSpare k [] = Unit
AllSpare k (c ∷ cs) = Spares k c × AllSpare k cs

-- The sound unit, in document 01's order and words: register writes, one cycle, the frame, runs, range rules, refusals.
use Rattle.std.specs.Prelude.{ℕ, zero, suc, ◌+◌, ◌-◌, ◌*◌, ◌/◌, ◌%◌, ◌≤◌, Bool, true, cond, not, ◌&&◌, List, [], ◌∷◌, ◌++◌, map, length, drop, replicate, ℤ, pos, ◌==◌, nat_le, nat_lt, slice_set, Result, Ok, Err}
use Rattle.std.specs.Int.Signed.{mag}
use Rattle.refusal.specs.Refusal.{fault, ◌then◌, Answer}
use Rattle.refusal.specs.declared.Refusal.{Refusal}
use Rattle.refusal.specs.declared.Refusal.TheVariants.{State, Room}
use Rattle.common.specs.Bits.{bit, signed}
use Rattle.voice.specs.ChannelEnum.{voice_write, has_offset, stop_voice}
use Rattle.six.specs.Core.{off_voices, voices_after, sums_of, silenced, voices_in_range}
pub use Rattle.six.specs.Core.{voice_at, plays}
unfoldable pub use Rattle.six.specs.Core.{any_plays}
use Rattle.voice.specs.declared.channel_enum.Voice.{Voice}
use Rattle.six.specs.declared.unit.Sums.{Sums}
use Rattle.vsu.specs.Constants.{frame_tick}
use Rattle.vsu.specs.declared.unit.Frame.{Frame}
use Rattle.vsu.specs.declared.unit.Register.{Register}
use Rattle.vsu.specs.declared.unit.Register.TheVariants as registers
use Rattle.vsu.specs.declared.unit.Said.{Said}
use Rattle.vsu.specs.declared.unit.Said.TheVariants as said
use Rattle.vsu.specs.declared.unit.Vsu.{Vsu}

-- A state with one part changed.

abbrev pub with_voices : Vsu → List Voice → Vsu
with_voices u vs = record { voices = vs; output = u.output; waves = u.waves; modulation = u.modulation; mutes = u.mutes }

abbrev pub with_output : Vsu → ℕ → Vsu
with_output u o = record { voices = u.voices; output = o; waves = u.waves; modulation = u.modulation; mutes = u.mutes }

abbrev pub with_waves : Vsu → List ℕ → Vsu
with_waves u w = record { voices = u.voices; output = u.output; waves = w; modulation = u.modulation; mutes = u.mutes }

abbrev pub with_modulation : Vsu → List ℤ → Vsu
with_modulation u m = record { voices = u.voices; output = u.output; waves = u.waves; modulation = m; mutes = u.mutes }

abbrev pub with_mutes : Vsu → ℕ → Vsu
with_mutes u m = record { voices = u.voices; output = u.output; waves = u.waves; modulation = u.modulation; mutes = m }

-- "Power-on: all zero and off, tap 14."; nothing muted

unfoldable pub power_on : Vsu
power_on =
    record {
      voices = off_voices;
      output = 0;
      waves = replicate 160 0;
      modulation = replicate 32 (pos 0);
      mutes = 0;
    }

-- Register writes.

abbrev pub between : ℕ → ℕ → ℕ → Bool
between low high a = nat_le low a && nat_le a high

-- "0x000..0x27F: wave address/0x80, sample (address/4) mod 32"; "0x280..0x2FF: modulation entry (address - 0x280)/4";
-- "0x400..0x57F: channel (address - 0x400)/0x40, offset address mod 0x20"; "Address 0x580 alone is the stop register"
unfoldable pub decode_of : ℕ → Register
decode_of a =
    cond (between 0x000 0x27F a) (registers.Wave (a / 0x80 * 32 + a / 4 % 32))
    (cond (between 0x280 0x2FF a) (registers.Modulation ((a - 0x280) / 4))
    (cond (between 0x400 0x57F a) (registers.Channel ((a - 0x400) / 0x40) (a % 0x20))
    (cond (a == 0x580) registers.Stop registers.Nothing)))

-- "byte mod 64. Dropped while any channel plays."; "Dropped while channel 5 (index 4) plays."; "bit 0 set stops all six; else nothing"
unfoldable pub write_to : Register → ℕ → Vsu → Vsu
write_to (registers.Wave at) b u = cond (any_plays u.voices) u (with_waves u (slice_set u.waves at (b % 64)))
write_to (registers.Modulation at) b u =
    cond (plays (voice_at 4 u.voices)) u (with_modulation u (slice_set u.modulation at (signed b)))
write_to (registers.Channel k offset) b u = with_voices u (slice_set u.voices k (voice_write offset b (voice_at k u.voices)))
write_to registers.Stop b u = cond (bit 0 b) (with_voices u (map stop_voice u.voices)) u
write_to registers.Nothing b u = u

abbrev pub write : ℕ → ℕ → Vsu → Vsu
write a b u = write_to (decode_of a) b u

-- What a write says: "one of: taken, held off by playing, no such register".

-- held off where `write_to` drops it; "An address outside the mapped ranges, or a channel offset that this channel hasn't got .., is no
-- register. 0x580 is always taken."
unfoldable pub sort_of : Register → List Voice → Said
sort_of (registers.Wave at) vs = cond (any_plays vs) said.Held said.Taken
sort_of (registers.Modulation at) vs = cond (plays (voice_at 4 vs)) said.Held said.Taken
sort_of (registers.Channel k offset) vs = cond (nat_lt k (length vs) && has_offset offset (voice_at k vs).kind) said.Taken said.NoRegister
sort_of registers.Stop vs = said.Taken
sort_of registers.Nothing vs = said.NoRegister

abbrev pub says : ℕ → Vsu → Said
says a u = sort_of (decode_of a) u.voices

-- One cycle, in this order.

-- steps 1 to 4 are `voices_after` of the six; "5. Output counter +1; at 480 it becomes 0 and one frame is made."
abbrev pub makes_frame : Vsu → Bool
makes_frame u = nat_le frame_tick (u.output + 1)

unfoldable pub cycle : Vsu → Vsu
cycle u = with_voices (with_output u (cond (makes_frame u) 0 (u.output + 1))) (voices_after u.modulation u.voices)

-- The frame.

-- "cut to a multiple of 8, times 4"
abbrev pub frame_side : ℕ → ℤ
frame_side sum = pos (sum / 8 * 8 * 4)

unfoldable pub frame_of : List ℕ → List Voice → Frame
frame_of waves vs = record { left = frame_side (sums_of waves vs).left; right = frame_side (sums_of waves vs).right }

-- the frame that the cycle from u makes, where it makes one: "a muted voice adds nothing to a frame"
unfoldable pub made : Vsu → List Frame
made u = cond (makes_frame u) (frame_of u.waves (silenced u.mutes (cycle u).voices) ∷ []) []

-- Runs.

unfoldable pub run : ℕ → Vsu → Vsu
run zero u = u
run (suc n) u = cycle (run n u)

unfoldable pub frames : ℕ → Vsu → List Frame
frames zero u = []
frames (suc n) u = frames n u ++ made (run n u)

-- "Frames due = (output counter + n)/480, cut."
abbrev pub frames_due : Vsu → ℕ → ℕ
frames_due u n = (u.output + n) / frame_tick

-- "Frames fill the buffer's front, left first"
unfoldable pub sides : List Frame → List ℤ
sides [] = []
sides (f ∷ fs) = f.left ∷ f.right ∷ sides fs

-- Range rules.

unfoldable pub all_at_most : ℕ → List ℕ → Bool
all_at_most most [] = true
all_at_most most (x ∷ xs) = nat_le x most && all_at_most most xs

-- "the modulation byte is signed, from -128 to 127": `mag` of `pos n` and of `negsuc n` is n
abbrev pub all_bytes : List ℤ → Bool
all_bytes xs = all_at_most 127 (map mag xs)

-- what the code's types fix: six voices, 5 × 32 samples, 32 entries
unfoldable pub shaped : Vsu → Bool
shaped u = length u.voices == 6 && length u.waves == 160 && length u.modulation == 32 && all_bytes u.modulation

-- "output counter 0..479; wave samples 0..63"; mutes "range 0 to 63"
unfoldable pub in_range : Vsu → Bool
in_range u = shaped u && (voices_in_range u.voices && nat_le u.output 479 && all_at_most 63 u.waves && nat_le u.mutes 63)

-- "Unit calls: 1, then 2".

unfoldable pub unit_answer : Vsu → Answer
unit_answer u = fault (not (in_range u)) State

-- 2 is given exactly when "frames due exceed half the buffer's length (cut)": when this does not hold
abbrev pub fits_in : ℕ → Vsu → ℕ → Bool
fits_in n u room = nat_le (frames_due u n) (room / 2)

unfoldable pub run_answer : ℕ → Vsu → ℕ → Answer
run_answer n u room = unit_answer u then fault (not (fits_in n u room)) Room

-- what the calls hand back: the state, and how the call ended, what a write said, how many frames a run made

pub record Moved : Type 0 where
  pub state : Vsu
  pub answer : Answer

pub record Written : Type 0 where
  pub state : Vsu
  pub said : Result Said Refusal

pub record Ran : Type 0 where
  pub state : Vsu
  pub frames : ℕ
  pub answer : Answer

-- the same of a run that ends in the number of its frames or why it was refused, and leaves a state
unfoldable pub ran_as : Result ℕ Refusal → Vsu → Ran
ran_as (Ok frames) u = record { state = u; frames = frames; answer = Ok tt }
ran_as (Err why) u = record { state = u; frames = 0; answer = Err why }

-- "A refused call hands back the given record or state, counts 0, and writes nothing": t is the state that the call comes to
unfoldable pub moved_by : Answer → Vsu → Vsu → Moved
moved_by (Ok done) u t = record { state = t; answer = Ok tt }
moved_by (Err why) u t = record { state = u; answer = Err why }

-- a write hands back what it says in place of the answer: s, or why it is refused
unfoldable pub written_by : Answer → Said → Vsu → Vsu → Written
written_by (Ok done) s u t = record { state = t; said = Ok s }
written_by (Err why) s u t = record { state = u; said = Err why }

abbrev pub write_of : ℕ → ℕ → Vsu → Written
write_of a b u = written_by (unit_answer u) (says a u) u (write a b u)

-- the answer that this is: each of the three sorts is an acceptance
unfoldable pub said_answer : Result Said Refusal → Answer
said_answer (Ok s) = Ok tt
said_answer (Err why) = Err why

abbrev pub advance_of : ℕ → Vsu → Moved
advance_of n u = moved_by (unit_answer u) u (run n u)

-- what a run hands back, and what its buffer holds afterwards
pub record RunGives : Type 0 where
  pub ran : Ran
  pub out : List ℤ

-- "Frames fill the buffer's front, left first; the rest keeps its bytes."
unfoldable pub ran_by : Answer → ℕ → Vsu → List ℤ → RunGives
ran_by (Ok done) n u out =
    record {
      ran = record { state = run n u; frames = frames_due u n; answer = Ok tt };
      out = sides (frames n u) ++ drop (frames_due u n * 2) out;
    }
ran_by (Err why) n u out = record { ran = record { state = u; frames = 0; answer = Err why }; out = out }

abbrev pub run_of : ℕ → Vsu → List ℤ → RunGives
run_of n u out = ran_by (run_answer n u (length out)) n u out

-- What the code's inner contracts go by; nothing to believe.

-- sums of which the frame's sides fit 16 bits: those of six voices in range come to 5,478 at most
pub record SmallSums (s : Sums) : Type 0 where
  pub left : s.left ≤ 5478
  pub right : s.right ≤ 5478

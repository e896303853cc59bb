-- The stem bouncer, in document 02's words: it "renders a span six times, one voice heard each time, into six lent buffers, with the full
-- mix in a seventh, the present mutes not applied to any of them. Mutes and player come back as given."
use Rattle.std.specs.Prelude.{ℕ, suc, ◌+◌, ◌-◌, ◌*◌, ◌^◌, ◌≤◌, min, ◌≡◌, Bool, true, not, ◌&&◌, List, [], ◌∷◌, ◌++◌, ltb, ℤ, pos, ◌+ℤ◌, ◌-ℤ◌, drop, get_or, length, Result, Ok, Err}
use Rattle.deck.specs.Player.{length_in, standing_answer, writes_in}
use Rattle.deck.specs.Unbroken.{frames_on, run_on}
use Rattle.deck.specs.declared.Player.{Player}
use Rattle.refusal.specs.Refusal.{fault, ◌then◌, Answer}
use Rattle.refusal.specs.declared.Refusal.{Refusal}
use Rattle.refusal.specs.declared.Refusal.TheVariants.{BeyondEnd, Room}
use Rattle.vsu.specs.Core.{fits_in, frames_due, sides, with_mutes}
use Rattle.vsu.specs.declared.unit.Vsu.{Vsu}

-- the seven lent buffers: those of channels 0 to 5, and the mix's
pub record Buffers : Type 0 where
  pub stems : List (List ℤ)
  pub mix : List ℤ

abbrev pub lent : List ℤ → List ℤ → List ℤ → List ℤ → List ℤ → List ℤ → List ℤ → Buffers
lent one two three four five six mix = record { stems = one ∷ two ∷ three ∷ four ∷ five ∷ six ∷ []; mix = mix }

-- "Refusals: the play order of 01; 2 if any of the seven lacks room".

unfoldable pub all_fit : ℕ → Vsu → List (List ℤ) → Bool
all_fit n u [] = true
all_fit n u (o ∷ os) = fits_in n u (length o) && all_fit n u os

unfoldable pub bounce_answer : Player → ℕ → List ℕ → Buffers → Answer
bounce_answer p n b o =
    standing_answer p b
    then fault (ltb (length_in b) (p.cycle + n)) BeyondEnd
    then fault (not (all_fit n p.unit (o.mix ∷ o.stems))) Room

-- the length of the shortest
abbrev pub shortest_of : ℕ → ℕ → ℕ → ℕ → ℕ → ℕ → ℕ → ℕ
shortest_of one two three four five six mix = min mix (min one (min two (min three (min four (min five six)))))

-- The renderings.

-- the mutes with which channel k alone is heard; the mix has none
abbrev pub all_but : ℕ → ℕ
all_but k = 63 - 2 ^ k

-- the span's frames with these mutes and not the present ones; "the rest keeps its bytes"
unfoldable pub rendered : Player → ℕ → List ℕ → ℕ → List ℤ → List ℤ
rendered p n b mutes out =
    sides (frames_on (writes_in b) p.cycle (with_mutes p.unit mutes) n) ++ drop (frames_due p.unit n * 2) out

-- those of the channels from k on
unfoldable pub stems_from : Player → ℕ → List ℕ → ℕ → List (List ℤ) → List (List ℤ)
stems_from p n b k [] = []
stems_from p n b k (s ∷ ss) = rendered p n b (all_but k) s ∷ stems_from p n b (suc k) ss

-- the record as it was given, the number of frames, and how the call ended
pub record Bounced : Type 0 where
  pub player : Player
  pub frames : ℕ
  pub answer : Answer

-- what a call hands back, and what the buffers hold afterwards: refused, "nothing written"
pub record BounceGives : Type 0 where
  pub bounced : Bounced
  pub out : Buffers

unfoldable pub bounce_by : Answer → Player → ℕ → List ℕ → Buffers → BounceGives
bounce_by (Ok done) p n b o =
    record {
      bounced = record { player = p; frames = frames_due p.unit n; answer = Ok tt };
      out = record { stems = stems_from p n b 0 o.stems; mix = rendered p n b 0 o.mix };
    }
bounce_by (Err why) p n b o = record { bounced = record { player = p; frames = 0; answer = Err why }; out = o }

abbrev pub bounce_of : Player → ℕ → List ℕ → Buffers → BounceGives
bounce_of p n b o = bounce_by (bounce_answer p n b o) p n b o

-- The remainder, "on each side of each frame".

-- "left first": where a side of frame i stands in a buffer

pub data Side : Type 0 where
  left : Side
  right : Side

abbrev pub place_of : Side → ℕ → ℕ
place_of left i = i * 2
place_of right i = i * 2 + 1

-- what the stems have at one place, added up
unfoldable pub added_at : ℕ → List (List ℤ) → ℤ
added_at i [] = pos 0
added_at i (s ∷ ss) = get_or s i (pos 0) +ℤ added_at i ss

-- "mix less the sum of stems"
abbrev pub less_stems : ℕ → Buffers → ℤ
less_stems i o = get_or o.mix i (pos 0) -ℤ added_at i o.stems

-- "a multiple of 32 from 0 to 160"
pub record Remains (z : ℤ) : Type 0 where
  pub times : ℕ
  pub is : z ≡ pos (times * 32)
  pub most : times * 32 ≤ 160

-- the state whose frame is the span's frame i: 480 cycles after the one before
abbrev pub framed : Player → List ℕ → ℕ → Vsu
framed p b i = run_on (writes_in b) p.cycle p.unit (480 * suc i - p.unit.output)

-- What the code's inner contracts go by; nothing to believe.

-- the Result of a call that answers with a number of frames
unfoldable pub frames_by : Answer → ℕ → Result ℕ Refusal
frames_by (Ok done) frames = Ok frames
frames_by (Err why) frames = Err why

unfoldable pub rendered_by : Answer → Player → ℕ → List ℕ → ℕ → List ℤ → List ℤ
rendered_by (Ok done) p n b mutes out = rendered p n b mutes out
rendered_by (Err why) p n b mutes out = out

-- The run of demand 3, over writes: "At cycle T, exactly the entries due before T have been applied; one due at T goes in before cycle
-- T + 1 runs."
use Rattle.std.specs.Prelude.{ℕ, zero, suc, ◌+◌, ◌-◌, Bool, true, false, cond, List, [], ◌∷◌, ◌++◌, ◌==◌}
use Rattle.register_log.specs.declared.Write.{Write}
use Rattle.vsu.specs.Core.{cycle, made, power_on, says, with_mutes, write}
use Rattle.vsu.specs.declared.unit.Frame.{Frame}
use Rattle.vsu.specs.declared.unit.Said.{Said}
use Rattle.vsu.specs.declared.unit.Said.TheVariants.{Taken, Held, NoRegister}
use Rattle.vsu.specs.declared.unit.Vsu.{Vsu}
use Rattle.deck.specs.declared.Counts.{Counts}

-- the writes due at a cycle, "in file order"
unfoldable pub apply_at : List Write → ℕ → Vsu → Vsu
apply_at [] t u = u
apply_at (w ∷ ws) t u = apply_at ws t (cond (w.due == t) (write w.address w.byte u) u)

-- the unbroken run from power-on, cycle by cycle
unfoldable pub state_at : List Write → ℕ → Vsu
state_at ws zero = power_on
state_at ws (suc t) = cycle (apply_at ws t (state_at ws t))

-- its frames of the n cycles from cycle a on, with mutes; the run itself has nothing muted
unfoldable pub frames_of : List Write → ℕ → ℕ → ℕ → List Frame
frames_of ws mutes a zero = []
frames_of ws mutes a (suc n) = frames_of ws mutes a n ++ made (with_mutes (apply_at ws (a + n) (state_at ws (a + n))) mutes)

-- its frames from cycle a to cycle b
abbrev pub frames_in : List Write → ℕ → ℕ → ℕ → List Frame
frames_in ws mutes a b = frames_of ws mutes a (b - a)

-- An entry at its moment: its write, and the state that it is applied to, after the earlier entries of its cycle.

pub record Moment : Type 0 where
  pub entry : Write
  pub unit : Vsu

-- the writes due at a cycle, each at its moment
unfoldable pub moments_at : List Write → ℕ → Vsu → List Moment
moments_at [] t u = []
moments_at (w ∷ ws) t u =
    cond (w.due == t) (record { entry = w; unit = u } ∷ moments_at ws t (write w.address w.byte u)) (moments_at ws t u)

-- those of the n cycles from cycle a on, in the unbroken run
unfoldable pub moments_of : List Write → ℕ → ℕ → List Moment
moments_of ws a zero = []
moments_of ws a (suc n) = moments_of ws a n ++ moments_at ws (a + n) (state_at ws (a + n))

-- those due from cycle a up to but not at cycle b
abbrev pub moments_in : List Write → ℕ → ℕ → List Moment
moments_in ws a b = moments_of ws a (b - a)

-- "the number of each sort": how many entries say so, each at its moment

abbrev pub is_taken : Said → Bool
is_taken Taken = true
is_taken Held = false
is_taken NoRegister = false

abbrev pub is_held : Said → Bool
is_held Taken = false
is_held Held = true
is_held NoRegister = false

abbrev pub is_none : Said → Bool
is_none Taken = false
is_none Held = false
is_none NoRegister = true

unfoldable pub how_many : (Said → Bool) → List Moment → ℕ
how_many sort [] = 0
how_many sort (m ∷ ms) = cond (sort (says m.entry.address m.unit)) 1 0 + how_many sort ms

abbrev pub counts_of : List Moment → Counts
counts_of ms = record { taken = how_many is_taken ms; held = how_many is_held ms; none = how_many is_none ms }

abbrev pub in_all : Counts → ℕ
in_all c = c.taken + c.held + c.none

-- "counts 0"
abbrev pub no_counts : Counts
no_counts = record { taken = 0; held = 0; none = 0 }

-- The same from any state: n cycles on from cycle c. What a call does to any record in range.

unfoldable pub run_on : List Write → ℕ → Vsu → ℕ → Vsu
run_on ws c u zero = u
run_on ws c u (suc n) = cycle (apply_at ws (c + n) (run_on ws c u n))

unfoldable pub frames_on : List Write → ℕ → Vsu → ℕ → List Frame
frames_on ws c u zero = []
frames_on ws c u (suc n) = frames_on ws c u n ++ made (apply_at ws (c + n) (run_on ws c u n))

unfoldable pub moments_on : List Write → ℕ → Vsu → ℕ → List Moment
moments_on ws c u zero = []
moments_on ws c u (suc n) = moments_on ws c u n ++ moments_at ws (c + n) (run_on ws c u n)

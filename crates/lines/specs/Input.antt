-- An input cut into lines.
use Rattle.std.specs.Prelude.{ℕ, ◌+◌, Bool, true, false, cond, not, ◌&&◌, List, eqb, ltb, get_or, length, set}
use Rattle.lines.specs.declared.input.Input.{Input}

-- nothing is read yet
abbrev pub new_input : Input
new_input = record { at = 0; size = 0; kept = 0; ended = false; more = true }

-- a read has brought so many bytes, or none: then a rest without a newline is a line, unless the read failed
unfoldable pub filled_of : Input → ℕ → Bool → Input
filled_of i size failed =
    cond (eqb size 0)
    (record { at = i.at; size = i.size; kept = i.kept; ended = not failed && ltb 0 i.kept; more = false })
    (record { at = 0; size = size; kept = i.kept; ended = i.ended; more = i.more })

-- the next line begins
abbrev pub begun_of : Input → Input
begun_of i = record { at = i.at; size = i.size; kept = 0; ended = false; more = i.more }

-- the line ends, before a place
abbrev pub ended_of : Input → ℕ → Input
ended_of i at = record { at = at; size = i.size; kept = i.kept; ended = true; more = i.more }

-- the line goes on, at a place
abbrev pub moved_of : Input → ℕ → ℕ → Input
moved_of i at kept = record { at = at; size = i.size; kept = kept; ended = i.ended; more = i.more }

-- one byte more, where there is room
abbrev pub kept_of : ℕ → ℕ → ℕ
kept_of kept room = cond (ltb kept room) (kept + 1) kept

-- one byte on: a newline (10) ends the line, any other is kept where there is room
unfoldable pub stepped_of : Input → List ℕ → ℕ → Input
stepped_of i bytes room =
    cond (ltb i.at (length bytes))
    (cond (eqb (get_or bytes i.at 0) 10) (ended_of i (i.at + 1)) (moved_of i (i.at + 1) (kept_of i.kept room)))
    i

-- what is kept of the line then
unfoldable pub front_of : Input → List ℕ → List ℕ → List ℕ
front_of i bytes line =
    cond (ltb i.at (length bytes))
    (cond (eqb (get_or bytes i.at 0) 10) line (set line i.kept (get_or bytes i.at 0)))
    line

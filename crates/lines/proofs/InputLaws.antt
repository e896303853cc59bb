-- Laws of specs/Input.antt.
use Prim.Native.Nat.{ℕ, ◌≤◌}
use mathlib.Core.List.{List}
use native.Mathlib.Omega.{arith}
use borrow.Author.Tests.{tests}
use Rattle.lines.specs.declared.input.Input.{Input}
use Rattle.lines.specs.Input.{stepped_of}

-- no more is kept than there is room for
pub kept_in : (i : Input) (bytes : List ℕ) (room : ℕ) → i.kept ≤ room → (stepped_of i bytes room).kept ≤ room
unfolding stepped_of
kept_in i bytes room h = grind (arith, tests, h)

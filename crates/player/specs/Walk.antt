-- What the inner contracts of the code go by; nothing to believe. What the calls promise is in `deck`.
use Rattle.std.specs.Prelude.{◌≡◌, ℕ, ◌+◌, ◌≤◌, Bool, true, cond, ◌&&◌, List, nat_le, nat_lt}
use Rattle.deck.specs.declared.Counts.{Counts}
use Rattle.deck.specs.declared.Player.{Player}
use Rattle.register_log.specs.Log.{check_of, due_at, due_before, edition1, log_with, stands_at, writes_from}
use Rattle.register_log.specs.declared.Log.{Log}
use Rattle.vsu.specs.Core.{in_range}
use Rattle.vsu.specs.declared.unit.Said.{Said}
use Rattle.vsu.specs.declared.unit.Said.TheVariants.{Taken, Held, NoRegister}

-- the due cycle of the next entry, or the target where that is earlier or the log has ended
unfoldable pub next_of : List ℕ → ℕ → ℕ → ℕ → ℕ
next_of b count applied target =
    cond (nat_lt applied count && nat_lt (due_at edition1 b applied) target) (due_at edition1 b applied) target

-- one more of its sort
unfoldable pub counted_by : Counts → Said → Counts
counted_by c Taken = record { taken = c.taken + 1; held = c.held; none = c.none }
counted_by c Held = record { taken = c.taken; held = c.held + 1; none = c.none }
counted_by c NoRegister = record { taken = c.taken; held = c.held; none = c.none + 1 }

-- a record from which an accepted log can be run on to a target
pub record Walkable (b : List ℕ) (count : ℕ) (p : Player) (target : ℕ) : Type 0 where
  pub cycles : ℕ
  pub accepted : check_of edition1 b ≡ log_with count cycles
  pub ranged : in_range p.unit ≡ true
  pub stands : p.applied ≡ due_before (writes_from edition1 b count 0) p.cycle
  pub ahead : p.cycle ≤ target

-- whether a log that was checked has a record's place
abbrev pub has_place : List ℕ → Log → ℕ → ℕ → Bool
has_place b l cycle applied = nat_le cycle l.cycles && stands_at edition1 b l.count cycle applied

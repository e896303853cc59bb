-- What the contracts of the leaps go by; nothing to believe: the engine above promises the cycle engine's own answers. A distance is a number
-- of cycles.
use Rattle.std.specs.Prelude.{ℕ, cond, ltb}

-- further than any call runs
abbrev pub never : ℕ
never = 4294967295

unfoldable pub least : ℕ → ℕ → ℕ
least a b = cond (ltb a b) a b

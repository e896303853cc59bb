-- The sixteen mark bits of a record.
use Rattle.std.specs.Prelude.{ℕ, zero, suc, ◌+◌, ◌-◌, ◌^◌, Bool, cond, ◌&&◌, leb}
use Rattle.common.specs.Bits.{bit}

unfoldable pub is_set : ℕ → ℕ → Bool
is_set slot marks = leb slot 15 && bit slot marks

-- "how many marks are set": of the n slots from k on
unfoldable pub count_from : ℕ → ℕ → ℕ → ℕ
count_from zero k marks = 0
count_from (suc n) k marks = cond (bit k marks) 1 0 + count_from n (suc k) marks

abbrev pub marks_set : ℕ → ℕ
marks_set marks = count_from 16 0 marks

-- "which is the lowest free (16 if none)": of the n slots from k on
unfoldable pub free_from : ℕ → ℕ → ℕ → ℕ
free_from zero k marks = k
free_from (suc n) k marks = cond (bit k marks) (free_from n (suc k) marks) k

abbrev pub lowest_free : ℕ → ℕ
lowest_free marks = free_from 16 0 marks

-- a mark set, and cleared; the others as they were
unfoldable pub with_mark : ℕ → ℕ → ℕ
with_mark slot marks = cond (leb slot 15) (cond (bit slot marks) marks (marks + 2 ^ slot)) marks

unfoldable pub without_mark : ℕ → ℕ → ℕ
without_mark slot marks = cond (leb slot 15) (cond (bit slot marks) (marks - 2 ^ slot) marks) marks

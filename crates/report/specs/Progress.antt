-- How much of long work is done.
use Rattle.std.specs.Prelude.{ℕ, ◌*◌, ◌/◌, cond, leb}

-- in hundredths, cut; all of nothing is done
abbrev pub percent_of : ℕ → ℕ → ℕ
percent_of done all = cond (leb all done) 100 (done * 100 / all)

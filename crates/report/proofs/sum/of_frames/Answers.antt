use Prim.Native.Nat.{ℕ, ◌*◌}
use mathlib.Core.Path.{◌≡◌, ◌∙◌}
use borrow.Author.Rules.{rules}
use lib.IntN.{ℤ}
use lib.ListN.{take}
use Rattle.std.specs.List as list
use Rattle.report.specs.Sum.{fold, side_of}
use Rattle.report.proofs.SumLaws.{folded-sides}
use Rattle.report.proofs.sum.of_frames.Goals as goal

pub returns : goal.returns
returns c = let h : c.fold.result ≡ list.fold (λ (s : ℕ) (v : ℤ). fold s (side_of v)) c.args.start (take c.min-end.result c.args.sides.now) = search rules in h ∙ folded-sides c.args.start (2 * c.args.frames) c.args.sides.now c.min-end.ensures

use Rattle.std.specs.Prelude.{◌≡◌, length}
use mathlib.Core.Path.{◌∙◌}
use mir.Facts.{to_z-of_z}
use mir.Syntax.{w8}
use Rattle.vsu.proofs.CoreLaws as laws
use native.Mathlib.Omega.{arith}
use borrow.Author.Rules.{rules}
use Rattle.vsu.proofs.unit.write_modulation.Goals as goal

pub returns-then-fifth : goal.returns-then-fifth
returns-then-fifth c = laws.modulation-dropped _ _ _ c.if-fifth.true

pub returns-then-at-lt32 : goal.returns-then-at-lt32
returns-then-at-lt32 c = laws.modulation-written _ _ _ c.if-fifth.false (to_z-of_z {w = w8} (record { sfits = c.signed.type_inv }) ∙ c.signed.ensures)

pub returns-else-at-lt32 : goal.returns-else-at-lt32
returns-else-at-lt32 c = let long : length c.args.u.modulation ≡ 32 = search rules in laws.modulation-past _ _ _ c.if-fifth.false (omega arith)

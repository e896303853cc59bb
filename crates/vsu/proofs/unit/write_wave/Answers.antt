use Rattle.vsu.proofs.CoreLaws as laws
use native.Mathlib.Omega.{arith}
use Rattle.std.specs.Prelude.{◌≡◌, length}
use mathlib.Core.Path.{◌∙◌}
use borrow.Author.Rules.{rules}
use Rattle.vsu.proofs.unit.write_wave.Goals as goal

pub returns-then-playback_occuring : goal.returns-then-playback_occuring
returns-then-playback_occuring c = laws.wave-dropped _ _ _ c.if-playback_occuring.true c.playback_occuring.ensures

pub returns-then-at-lt160 : goal.returns-then-at-lt160
returns-then-at-lt160 c = laws.wave-written _ _ _ c.if-playback_occuring.false c.playback_occuring.ensures (c.field.ensures ∙ omega arith)

pub returns-else-at-lt160 : goal.returns-else-at-lt160
returns-else-at-lt160 c = let long : length c.args.u.waves ≡ 160 = search rules in laws.wave-past _ _ _ c.if-playback_occuring.false c.playback_occuring.ensures (omega arith)

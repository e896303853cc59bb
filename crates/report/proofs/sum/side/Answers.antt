use mathlib.Core.Path.{ap, ◌∙◌}
use mir.Facts.{to_z-of_z}
use mir.Syntax.{w16}
use mir.Val.{of_z}
use Rattle.report.proofs.SumLaws.{cast-side}
use Rattle.report.proofs.sum.side.Goals as goal

pub returns : goal.returns
returns c = c.from.ensures ∙ c.cast_unsigned.ensures ∙ ap (of_z w16) (to_z-of_z c.ranges.value) ∙ cast-side c.args.value

use mathlib.Core.Path.{◌∙◌}
use Rattle.common.proofs.BitsLaws as laws
use Rattle.common.proofs.bits.shifted.Goals as goal

pub returns : goal.returns
returns c = c.unwrap_or.ensures ∙ laws.shifted_is c.checked_shr.result c.args.by c.ranges.x.fits (rw c.from.ensures at c.checked_shr.ensures)

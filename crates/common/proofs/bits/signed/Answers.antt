use mathlib.Core.Path.{◌∙◌}
use mir.Facts.{to_z-of_z}
use mir.Syntax.{w8}
use Rattle.common.proofs.BitsLaws as laws
use Rattle.common.proofs.bits.signed.Goals as goal

pub returns : goal.returns
returns c = to_z-of_z {w = w8} (record { sfits = c.cast_signed.type_inv }) ∙ c.cast_signed.ensures ∙ laws.signed_is c.ranges.value.fits

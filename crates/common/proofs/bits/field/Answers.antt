use Rattle.common.proofs.BitsLaws as laws
use native.Mathlib.Omega.{arith}
use Rattle.common.proofs.bits.field.Goals as goal

pub returns-then-from-gt7 : goal.returns-then-from-gt7
returns-then-from-gt7 c = laws.field_out _ c.ranges.value.fits c.if-from-gt7.true

pub returns-then-width-gt7 : goal.returns-then-width-gt7
returns-then-width-gt7 c = laws.field-whole _ c.ranges.value.fits c.if-width-gt7.true

pub returns : goal.returns
returns c = laws.masked (omega arith) _

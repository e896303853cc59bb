use Rattle.common.proofs.BitsLaws as laws
use mathlib.Core.Path.{ap}
use lib.IntN.{nat_abs}
use Rattle.common.proofs.bits.addend.Goals as goal

pub returns : goal.returns
returns c = ap nat_abs (laws.sum_is _ c.ranges.entry)

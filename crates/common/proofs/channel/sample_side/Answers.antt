use Prim.Native.Nat.{◌*◌, ◌≤◌}
use Rattle.common.proofs.ChannelLaws as laws
use native.Mathlib.Omega.{arith}
use mathlib.Core.Path.{refl}
use Rattle.common.specs.Channel.{side}
use Rattle.common.proofs.channel.sample_side.Goals as goal

small : (c : goal.After-amplitude) → c.amplitude.result * c.args.output ≤ 8129 * 255
small c =
    rw c.amplitude.ensures
    (laws.product_le 8129 255 (laws.amplitude-le c.args.level c.args.volume 255 255 (omega arith) (omega arith))
    (omega arith))

pub overflow_mul-result : goal.overflow_mul-result
overflow_mul-result c = omega (arith, small c)

pub returns : goal.returns
unfolding side
returns c = (rw c.amplitude.ensures refl, omega (arith, small c))

use native.Mathlib.Omega.{arith}
use Rattle.little.proofs.LittleLaws as laws
use Rattle.little.proofs.u16_at.Goals as goal

pub returns : goal.returns
returns c =
    omega
    (arith, laws.number-two c.args.b.now c.args.at, c.from_le_bytes.ensures, laws.first_byte c.args.b.now c.args.at (c.bytes_at.ensures 0 (omega arith)), c.bytes_at.ensures 1 (omega arith))

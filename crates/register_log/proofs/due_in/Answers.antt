use native.Mathlib.Omega.{arith}
use Rattle.little.proofs.LittleLaws.{number-four}
use Rattle.register_log.proofs.due_in.Goals as goal

pub returns : goal.returns
returns c = omega (arith, number-four c.args.log.now c.args.at, c.from_le_bytes.ensures)

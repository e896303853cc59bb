use native.Mathlib.Omega.{arith}
use Rattle.recorder.proofs.RecorderLaws as laws
use Rattle.recorder.proofs.put_entry.Goals as goal

pub returns : goal.returns
returns c = laws.puts-entry c.args.buffer.now (record { due = c.args.cycle; address = c.args.address; byte = c.args.byte }) c.args.index (omega (arith, c.ranges.byte)) c.entry_place-at.ensures c.put.ensures (rw c.from.ensures at c.put-2.ensures) (rw c.from-2.ensures at c.put-3.ensures)

use Rattle.recorder.proofs.RecorderLaws as laws
use Rattle.recorder.proofs.put_header.Goals as goal

pub returns : goal.returns
returns c = laws.puts-header c.args.buffer.now c.args.count c.args.cycles c.put.ensures c.put-2.ensures c.put-3.ensures c.put-4.ensures c.put-5.ensures

use Rattle.register_log.proofs.ReaderLaws.{read-handed}
use Rattle.register_log.specs.Log.{edition1}
use Rattle.register_log.proofs.reader.Reader.next.Goals as goal

pub returns : goal.returns
returns c = (c.entry_in.ensures.0, read-handed edition1 c.args.self.log.now c.args.self.at c.entry_in.ensures.0, c.entry_in.ensures.1)

use Rattle.register_log.proofs.LogLaws as laws
use Rattle.register_log.specs.Log.{edition1}
use Rattle.register_log.proofs.due_earlier.Goals as goal

pub returns-in-Some : goal.returns-in-Some
returns-in-Some c = laws.earlier-of edition1 c.args.log.now c.args.index c.in-Some.ensures c.due_at.ensures

pub returns-in-None : goal.returns-in-None
returns-in-None c = laws.earlier-first edition1 c.args.log.now c.args.index c.in-None.ensures

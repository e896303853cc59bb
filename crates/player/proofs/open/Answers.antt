use Rattle.player.proofs.PlayerLaws as laws
use Rattle.player.proofs.open.Goals as goal

pub returns : goal.returns
returns c = laws.opens c.args.log.now _ c.check_log.ensures.0 c.new.ensures _ _ c.map-answer.ensures.cases

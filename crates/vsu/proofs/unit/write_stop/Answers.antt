use Rattle.vsu.proofs.CoreLaws as laws
use Rattle.vsu.proofs.unit.write_stop.Goals as goal

pub returns-then-flag : goal.returns-then-flag
returns-then-flag c = laws.stop-written _ _ c.flag.ensures c.if-flag.true c.stop_all-silent.ensures

pub returns-else-flag : goal.returns-else-flag
returns-else-flag c = laws.stop-passed _ _ c.flag.ensures c.if-flag.false

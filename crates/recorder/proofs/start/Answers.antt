use mathlib.Core.Path.{refl}
use Rattle.recorder.proofs.RecorderLaws as laws
use Rattle.register_log.specs.Log.{edition1}
use lib.ListN.{length}
use Rattle.recorder.proofs.start.Goals as goal

pub returns-then-buffer-lt16 : goal.returns-then-buffer-lt16
returns-then-buffer-lt16 c = laws.refuses _ _ _ _ (laws.start-short edition1 (length c.args.buffer.now) c.if-buffer-lt16.true)

pub returns-else-buffer-lt16 : goal.returns-else-buffer-lt16
returns-else-buffer-lt16 c = laws.takes _ _ _ _ (laws.start-passes edition1 (length c.args.buffer.now) c.if-buffer-lt16.false) refl refl

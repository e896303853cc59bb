use Rattle.register_log.proofs.ReaderLaws as laws
use Rattle.register_log.proofs.reader.place_after.Goals as goal

pub returns-in-Ok : goal.returns-in-Ok
returns-in-Ok c = laws.after-entry _ c.in-Ok.is c.if-at-log.true

pub returns-in-Ok-2 : goal.returns-in-Ok-2
returns-in-Ok-2 c = laws.after-end _ c.in-Ok.is c.if-at-log.false

pub returns-in-Err : goal.returns-in-Err
returns-in-Err c = laws.after-refused _ c.in-Err.is

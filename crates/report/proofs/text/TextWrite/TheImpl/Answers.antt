-- What it gives when it ends in Ok, it gives.
use Rattle.report.proofs.text.TextWrite.TheImpl.Goals as goal

pub write_str-tells : goal.write_str-tells
write_str-tells g c = record { ok = λ _. (c.ensures.end, c.ensures.bytes) }

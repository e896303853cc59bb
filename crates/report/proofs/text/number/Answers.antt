-- The digits that the library makes are those of the definition.
use mathlib.Core.Path.{◌∙◌}
use Rattle.report.proofs.TextLaws.{decimal-is}
use Rattle.report.proofs.text.number.Goals as goal

pub returns : goal.returns
returns c =
    let e = c.decimal-k.ensures.digits ∙ decimal-is c.args.n c.decimal-k.result c.ranges.n.fits c.decimal-k.ensures.len in
    record { value = rw e at c.words.ensures.value; out_after = rw e at c.words.ensures.out_after }

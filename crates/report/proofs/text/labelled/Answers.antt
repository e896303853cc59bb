-- Two pieces, one after the other.
use mathlib.Core.Path.{refl}
use Rattle.report.specs.Text.{decimal_of}
use Rattle.report.proofs.TextLaws.{Laid, laid, joined}
use Rattle.report.proofs.text.labelled.Goals as goal

pub returns-clause-out_after : goal.returns-clause-out_after
returns-clause-out_after c =
    let f : Laid _ _ _ _ _ =
    joined
    (laid c.args.out.now _ c.args.text.now refl (c.words-a.ensures.value, c.words-a.ensures.out_after))
    (laid _ _ (decimal_of c.args.n) refl (c.number.ensures.value, c.number.ensures.out_after))
    in f.held

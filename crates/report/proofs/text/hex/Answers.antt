-- Byte by byte, each as the text of its two digits.
use mathlib.Core.Path.{refl, ◌∙◌}
use Rattle.report.specs.Text.{hex_of}
use Rattle.report.proofs.TextLaws.{none, laid, hex-is, hex-turn, hex-all}
use Rattle.report.proofs.text.hex.Goals as goal

pub loop-byte-init : goal.loop-byte-init
unfolding hex_of
loop-byte-init c = (refl, none _ _)

pub loop-byte-preserved : goal.loop-byte-preserved
loop-byte-preserved c =
    hex-turn
    _
    c.loop-byte.byte-index
    c.loop-byte-test.true
    c.loop-byte.invariant.1
    (laid
    _
    _
    _
    (rw c.from.ensures at c.hex-k.ensures.digits ∙ hex-is _ _ (c.type_inv.bytes c.loop-byte.byte-index).fits (rw c.from.ensures at c.hex-k.ensures.len))
    (c.words-next.ensures.value, c.words-next.ensures.out_after))

pub returns : goal.returns
returns c =
    let f = hex-all _ c.loop-byte.byte-index c.loop-byte-test.false c.loop-byte.invariant.1 in
    record { value = f.0; out_after = f.1 }

use Rattle.std.proofs.Common.{refl, sym, ap, ◌∙◌, arith, Err}
use Rattle.table.specs.Table.{known_edition}
use Rattle.image.proofs.ImageLaws as laws
use Rattle.image.proofs.check_fields.Goals as goal

pub returns-then-at_fault : goal.returns-then-at_fault
returns-then-at_fault c =
    sym (c.loop-i.invariant ∙ laws.fault-here (known_edition c.args.edition) c.args.f.now c.loop-i.i (omega arith) c.row_at-r.ensures refl (sym c.at_fault.ensures ∙ c.if-at_fault.true) ∙ ap Err (sym c.refusal_at.ensures))

pub loop-i-preserved : goal.loop-i-preserved
loop-i-preserved c =
    c.loop-i.invariant ∙ laws.fault-later (known_edition c.args.edition) c.args.f.now c.loop-i.i (omega arith) c.row_at-r.ensures refl (sym c.at_fault.ensures ∙ c.if-at_fault.false)

pub returns : goal.returns
returns c = sym (c.loop-i.invariant ∙ laws.no-fault (known_edition c.args.edition) c.args.f.now c.loop-i.i (omega arith))

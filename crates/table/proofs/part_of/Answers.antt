use Rattle.std.proofs.Common.{sym, ◌∙◌, rules, arith}
use Rattle.table.proofs.TableLaws as laws
use Rattle.table.proofs.part_of.Goals as goal

pub loop-next-init : goal.loop-next-init
loop-next-init c = rw c.parts_of-parts.ensures (laws.part-first c.args.edition c.args.field)

pub returns-then-field-first : goal.returns-then-field-first
returns-then-field-first c =
    sym (c.loop-next.invariant ∙ laws.part-here _ c.loop-next.p _ c.loop-next.next-index (search rules) c.if-field-first.true)

pub loop-next-preserved : goal.loop-next-preserved
loop-next-preserved c =
    c.loop-next.invariant ∙ laws.part-later _ c.loop-next.p _ c.loop-next.next-index (search rules) c.if-field-first.false

pub returns : goal.returns
returns c = laws.part-last _ c.loop-next.p _ c.loop-next.next-index (omega arith) c.loop-next.invariant

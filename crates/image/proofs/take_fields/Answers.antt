use Rattle.std.proofs.Common.{refl, arith}
use Rattle.image.specs.Image.{values_of}
use Rattle.table.specs.Table.{known_edition}
use Rattle.image.proofs.ImageLaws as laws
use Rattle.image.proofs.take_fields.Goals as goal

pub loop-i-init : goal.loop-i-init
unfolding values_of
loop-i-init c = refl

pub loop-i-preserved : goal.loop-i-preserved
loop-i-preserved c = laws.take_step (known_edition c.args.edition) _ c.args.b.now c.loop-i.i c.row_at-r.ensures c.number_at.ensures c.loop-i.invariant

pub returns : goal.returns
returns c = laws.take_done c.args.edition c.args.b.now c.loop-i.i (omega arith) (omega arith) c.loop-i.invariant

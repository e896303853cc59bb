use Rattle.std.proofs.Common.{refl, rules}
use Rattle.image.specs.Image.{bytes_of}
use Rattle.table.proofs.TableLaws.{newest-laid}
use Rattle.image.proofs.ImageLaws as laws
use Rattle.image.proofs.put_fields.Goals as goal

pub loop-i-init : goal.loop-i-init
unfolding bytes_of
loop-i-init c = refl

pub loop-i-preserved : goal.loop-i-preserved
loop-i-preserved c = laws.put_step newest-laid c.args.out.now c.args.f.now c.loop-i.i (search rules) c.row_at-r.ensures refl c.loop-i.invariant c.put.ensures

use Rattle.std.specs.Prelude.{◌≡◌}
use lib.Seq.{sets}
use Rattle.image.specs.Image.{values_of}
use Rattle.table.specs.Table.{known_edition}
use Rattle.image.proofs.take_fields.Given as goal

abbrev pub invariant-loop-i : goal.invariant-loop-i
invariant-loop-i l = l.f ≡ sets l.initial.f 0 (values_of (known_edition l.fn.edition) l.b l.i)

use Rattle.std.specs.Prelude.{◌≡◌}
use lib.Seq.{sets}
use Rattle.image.specs.Image.{bytes_of}
use Rattle.table.specs.Table.{newest}
use Rattle.image.proofs.put_fields.Given as goal

abbrev pub invariant-loop-i : goal.invariant-loop-i
invariant-loop-i l = l.out ≡ sets l.initial.out 0 (bytes_of newest l.f l.i)

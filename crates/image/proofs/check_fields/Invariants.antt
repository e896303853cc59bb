use Rattle.std.specs.Prelude.{◌≡◌, ◌-◌}
use Rattle.image.specs.Image.{fields_answer}
use Rattle.table.specs.Table.{field_count, known_edition}
use Rattle.image.proofs.check_fields.Given as goal

abbrev pub invariant-loop-i : goal.invariant-loop-i
invariant-loop-i l = fields_answer (known_edition l.fn.edition) l.f (field_count l.fn.edition) 0 ≡ fields_answer (known_edition l.fn.edition) l.f (field_count l.fn.edition - l.i) l.i

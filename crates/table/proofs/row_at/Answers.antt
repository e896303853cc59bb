use Rattle.std.proofs.Common.{rules, arith, length, ◌-◌, ◌%◌}
use Rattle.table.specs.Table.{cells_of}
use Rattle.table.proofs.TableLaws as laws
use Rattle.table.proofs.row_at.Goals as goal

pub overflow_sub-n : goal.overflow_sub-n
overflow_sub-n c = (laws.part_sound c.args.edition c.args.field c.part_of-first.ensures).begins

pub overflow_mul-result : goal.overflow_mul-result
overflow_mul-result c =
    rw (c.cell_of-i.ensures.1, c.cells_of-cells.ensures)
    record { fits = omega (arith, laws.repeat-fits (laws.part_sound c.args.edition c.args.field c.part_of-first.ensures) (search rules)) }

pub overflow_add-result : goal.overflow_add-result
overflow_add-result c =
    rw (c.cell_of-i.ensures.1, c.cells_of-cells.ensures)
    record { fits = omega (arith, laws.place-fits (laws.part_sound c.args.edition c.args.field c.part_of-first.ensures) (search rules)) }

pub overflow_add-result-2 : goal.overflow_add-result-2
overflow_add-result-2 c =
    rw (c.cell_of-i.ensures.0, c.cell_of-i.ensures.1, c.cells_of-cells.ensures)
    record { fits = omega (arith, laws.place-fits (laws.part_sound c.args.edition c.args.field c.part_of-first.ensures) (search rules), laws.cell-low c.part_of-first.result.3 ((c.args.field - c.part_of-first.result.0) % length (cells_of c.part_of-first.result.3))) }

pub returns : goal.returns
returns c =
    rw (c.cell_of-i.ensures.0, c.cell_of-i.ensures.1, c.cells_of-cells.ensures) (
    laws.row_of c.args.edition c.args.field c.part_of-first.ensures (rw (c.cell_of-i.ensures.0, c.cells_of-cells.ensures) at c.own_of.ensures)
    )

use Rattle.std.proofs.Common.{◌≡◌, drop}
use Rattle.table.specs.Table.{parts_of, part_in, part_of}
use Rattle.table.proofs.part_of.Given as goal

abbrev pub invariant-loop-next : goal.invariant-loop-next
invariant-loop-next l = part_of (parts_of l.fn.edition) l.field ≡ part_in l.field l.p (drop l.next-index l.next-items)

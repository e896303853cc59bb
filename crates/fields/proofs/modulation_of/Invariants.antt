use Rattle.std.specs.Prelude.{◌≡◌, map, length, take, drop}
use Rattle.table.specs.Table.{modulation_from}
use Rattle.fields.specs.Fields.{entry_by}
use Rattle.fields.proofs.modulation_of.Given as goal

abbrev pub invariant-loop-i : goal.invariant-loop-i
invariant-loop-i l = (length l.modulation ≡ 32) × (take l.i l.modulation ≡ take l.i (map entry_by (take 32 (drop modulation_from l.f))))

use Rattle.std.specs.Prelude.{◌≡◌, map, length, take, drop}
use Rattle.table.specs.Table.{waves_from}
use Rattle.fields.specs.Fields.{byte}
use Rattle.fields.proofs.waves_of.Given as goal

abbrev pub invariant-loop-i : goal.invariant-loop-i
invariant-loop-i l = (length l.waves ≡ 160) × (take l.i l.waves ≡ take l.i (map byte (take 160 (drop waves_from l.f))))

use Rattle.std.specs.Prelude.{◌≡◌, length, take}
use Rattle.fields.proofs.wave_fields.Given as goal

abbrev pub invariant-loop-i : goal.invariant-loop-i
invariant-loop-i l = (length l.fields ≡ 160) × (take l.i l.fields ≡ take l.i l.waves)

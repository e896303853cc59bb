use Prim.Native.Nat.{◌≤◌}
use mathlib.Core.Path.{◌≡◌}
use Rattle.leaps.specs.Sample.{samples_on}
use Rattle.leaps.proofs.sample.clocked.Given as goal

abbrev pub invariant-loop : goal.invariant-loop
invariant-loop l = (l.counter ≤ l.n) × (l.k ≡ samples_on l.counter l.fn.kind)

use Rattle.std.specs.Prelude.{◌≡◌, ◌*◌, ◌≤◌, take}
use Rattle.std.specs.List.{sum_by}
use Rattle.six.specs.Core.{heard_left, heard_right}
use Rattle.six.proofs.unit.mix.Given as goal

-- each side is the sum of the voices passed, and none of them is above what a voice adds at most
abbrev pub invariant-loop-v : goal.invariant-loop-v
invariant-loop-v l = (l.left ≡ sum_by (heard_left l.waves) (take l.v-index l.v-items))
    × (l.right ≡ sum_by (heard_right l.waves) (take l.v-index l.v-items))
    × (l.left ≤ l.v-index * 1036447)
    × (l.right ≤ l.v-index * 1036447)

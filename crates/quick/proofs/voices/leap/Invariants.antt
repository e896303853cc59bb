use Rattle.std.specs.Prelude.{◌≡◌, ◌++◌, drop, map, take}
use Rattle.leaps.specs.ChannelEnum.{leap_of}
use Rattle.quick.proofs.voices.leap.Given as goal

abbrev pub invariant-loop-v : goal.invariant-loop-v
invariant-loop-v l = l.v-items ≡ map (leap_of l.n) (take l.v-index l.fn.voices) ++ drop l.v-index l.fn.voices

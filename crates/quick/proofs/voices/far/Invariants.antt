use Rattle.quick.specs.Voices.{far_from, voices_far}
use Rattle.std.specs.Prelude.{◌≡◌, drop}
use Rattle.quick.proofs.voices.far.Given as goal

abbrev pub invariant-loop-v : goal.invariant-loop-v
invariant-loop-v l = voices_far l.fn.voices ≡ far_from l.nearest (drop l.v-index l.fn.voices)

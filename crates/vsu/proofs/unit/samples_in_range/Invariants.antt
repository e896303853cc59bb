use Rattle.vsu.proofs.CoreLaws as laws
use Rattle.vsu.proofs.unit.samples_in_range.Given as goal

abbrev pub invariant-loop-sample : goal.invariant-loop-sample
invariant-loop-sample l = laws.SmallSoFar 63 l.waves l.sample-index l.small

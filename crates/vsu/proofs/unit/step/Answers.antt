use native.Mathlib.Omega.{arith}
use borrow.Author.Rules.{rules}
use Rattle.vsu.proofs.StepLaws as laws
use Rattle.vsu.proofs.unit.step.Goals as goal

pub loop-i-init : goal.loop-i-init
loop-i-init g c = laws.begins c.requires.0 _ _

pub sample-frame-requires : goal.sample-frame-requires
sample-frame-requires g c = laws.sums c.requires.0 c.requires.1 c.loop-i.invariant _ (c.cycles-next.ensures (laws.in-range c.requires.0 c.requires.1 c.loop-i.invariant))

pub loop-i-preserved-then-output-eq-SOUND_SAMPLE_RATE_CYCLE_COUNT : goal.loop-i-preserved-then-output-eq-SOUND_SAMPLE_RATE_CYCLE_COUNT
loop-i-preserved-then-output-eq-SOUND_SAMPLE_RATE_CYCLE_COUNT g c =
    laws.frame-turn c.requires.0 c.requires.1 c.loop-i.invariant _ (c.cycles-next.ensures (laws.in-range c.requires.0 c.requires.1 c.loop-i.invariant)) (omega arith) (omega arith) c.sample-frame.ensures (search rules) (search rules)

pub loop-i-preserved : goal.loop-i-preserved
loop-i-preserved g c = laws.quiet-turn c.requires.0 c.requires.1 c.loop-i.invariant _ (c.cycles-next.ensures (laws.in-range c.requires.0 c.requires.1 c.loop-i.invariant)) (omega arith) (omega arith)

pub returns : goal.returns
returns g c = laws.ends c.requires.0 c.requires.1 c.loop-i.invariant (omega arith)

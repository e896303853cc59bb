use Rattle.voice.proofs.ChannelEnumLaws as laws
use Rattle.voice.proofs.channel_enum.step_sampling_frequency.Goals as goal

pub returns-then-p : goal.returns-then-p
returns-then-p c = rw c.increment_sample.ensures (laws.sample-due _ c.cycles_per_frequency_tick.ensures c.frequency.ensures c.pitch_step-p.ensures c.if-p.true)

pub returns : goal.returns
returns c = laws.sample-stays _ c.cycles_per_frequency_tick.ensures c.frequency.ensures c.pitch_step-p.ensures c.if-p.false

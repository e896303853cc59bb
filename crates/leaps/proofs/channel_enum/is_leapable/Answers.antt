use Rattle.leaps.proofs.ChannelEnumLaws as laws
use Rattle.leaps.proofs.channel_enum.is_leapable.Goals as goal

pub returns : goal.returns
returns c = laws.leapable-is _ _ c.frequency.ensures c.cycles_per_frequency_tick.ensures c.far.ensures c.is_pitchable.ensures

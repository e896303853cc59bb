use Rattle.leaps.proofs.ChannelEnumLaws as laws
use Rattle.leaps.proofs.channel_enum.tone_leap.Goals as goal

pub channel_leap-c-requires : goal.channel_leap-c-requires
channel_leap-c-requires c = (c.requires.live, (c.requires.tick, c.requires.near))

pub leap-s-requires : goal.leap-s-requires
leap-s-requires c = rw (c.cycles_per_frequency_tick.ensures, c.frequency.ensures) c.requires.pitch

pub returns-then-s-gt0 : goal.returns-then-s-gt0
returns-then-s-gt0 c = laws.tone-sampled _ _ c.channel_leap-c.ensures c.frequency.ensures c.cycles_per_frequency_tick.ensures c.leap-s.ensures c.on.ensures

pub returns : goal.returns
returns c = laws.tone-still _ _ c.channel_leap-c.ensures c.frequency.ensures c.cycles_per_frequency_tick.ensures c.leap-s.ensures c.if-s-gt0.false

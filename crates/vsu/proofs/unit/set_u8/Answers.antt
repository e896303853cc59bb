use Rattle.vsu.proofs.CoreLaws as laws
use Rattle.vsu.proofs.unit.set_u8.Goals as goal

pub returns-in-Wave : goal.returns-in-Wave
returns-in-Wave c = laws.decoded _ _ _ c.decode.ensures (c.in-Wave.is) c.write_wave.ensures

pub returns-in-Modulation : goal.returns-in-Modulation
returns-in-Modulation c = laws.decoded _ _ _ c.decode.ensures (c.in-Modulation.is) c.write_modulation.ensures

pub returns-in-Channel : goal.returns-in-Channel
returns-in-Channel c = laws.decoded _ _ _ c.decode.ensures (c.in-Channel.is) c.write_channel.ensures

pub returns-in-Stop : goal.returns-in-Stop
returns-in-Stop c = laws.decoded _ _ _ c.decode.ensures (c.in-Stop.is) c.write_stop.ensures

pub returns-in-Nothing : goal.returns-in-Nothing
returns-in-Nothing c = laws.decoded _ _ _ c.decode.ensures (c.in-Nothing.is) (laws.nothing_written _ _)

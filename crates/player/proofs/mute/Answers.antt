use Rattle.player.proofs.PlayerLaws as laws
use Rattle.player.proofs.mute.Goals as goal

pub returns-then-in_range-bits : goal.returns-then-in_range-bits
returns-then-in_range-bits c = laws.mute-refused c.args.p.now c.args.bits c.in_range.ensures c.if-in_range-bits.true

pub returns : goal.returns
returns c = laws.mute-done c.args.p.now c.args.bits c.in_range.ensures c.if-in_range-bits.false

use Rattle.player.proofs.PlayerLaws as laws
use Rattle.player.proofs.keep.Goals as goal

pub returns : goal.returns
returns c = laws.kept c.args.p.now c.args.slot c.args.memory.now c.requires.0 c.requires.1.0 c.requires.1.1 c.slot_place-at.ensures c.put.ensures c.put-2.ensures c.write_image.ensures.1

use Rattle.leaps.proofs.channel_enum.channel_leap.Goals as goal

pub returns : goal.returns
returns c = λ i. record { envelope = c.leap-d-2.ensures i; pitch = c.args.c.pitch; live = c.leap-d.ensures i; left = c.args.c.left; right = c.args.c.right }

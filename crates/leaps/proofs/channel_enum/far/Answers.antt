use Rattle.leaps.specs.Distance.{least}
use mathlib.Core.Path.{◌∙◌, ap₂}
use Rattle.leaps.specs.ChannelEnum.{voice_far}
use Rattle.leaps.proofs.channel_enum.far.Goals as goal

pub returns : goal.returns
unfolding voice_far
returns c = c.least-2.ensures ∙ ap₂ least (c.least.ensures ∙ ap₂ least c.far.ensures c.far-2.ensures) c.kind_far.ensures

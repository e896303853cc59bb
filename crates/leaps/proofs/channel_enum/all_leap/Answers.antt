use Rattle.leaps.specs.ChannelEnum.{tone_leap}
use Rattle.leaps.proofs.ChannelEnumLaws as laws
use mathlib.Core.Path.{◌∙◌, ap}
use Rattle.leaps.proofs.channel_enum.all_leap.Goals as goal

pub tone_leap-requires : goal.tone_leap-requires
tone_leap-requires c = laws.still-playable c.requires c.swept_leap.ensures

pub returns : goal.returns
returns c = c.tone_leap.ensures ∙ ap (tone_leap _) c.swept_leap.ensures

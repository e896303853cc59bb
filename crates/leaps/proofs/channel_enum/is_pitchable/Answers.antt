use Rattle.leaps.specs.ChannelEnum.{pitchable}
use borrow.Author.Rules.{rules}
use Rattle.leaps.proofs.channel_enum.is_pitchable.Goals as goal

pub returns : goal.returns
unfolding pitchable
returns c = search rules

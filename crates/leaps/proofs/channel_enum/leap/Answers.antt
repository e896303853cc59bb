use Rattle.leaps.proofs.ChannelEnumLaws as laws
use mathlib.Core.Path.{◌∙◌, sym}
use Rattle.leaps.proofs.channel_enum.leap.Goals as goal

pub all_leap-requires : goal.all_leap-requires
all_leap-requires c = laws.leap-facts _ _ (sym c.is_leapable.ensures ∙ c.if-is_leapable.true)

pub returns-then-is_leapable : goal.returns-then-is_leapable
returns-then-is_leapable c = laws.leap-taken _ _ (sym c.is_leapable.ensures ∙ c.if-is_leapable.true) c.all_leap.ensures

pub returns : goal.returns
returns c = laws.leap-left _ _ (sym c.is_leapable.ensures ∙ c.if-is_leapable.false)

use borrow.Author.Rules.{rules}
use borrow.Author.Tests.{tests}
use Rattle.std.proofs.lemmas.Iterator.Search.{any_from_yields_List}
use Rattle.std.proofs.lemmas.Iterator.{YieldsList-from_slice}
use Rattle.std.specs.Prelude.{eqb}
use Rattle.voice.specs.ChannelEnum.{taps}
use Rattle.voice.proofs.channel_enum.is_tap.Goals as goal

pub returns : goal.returns
returns c = any_from_yields_List (eqb c.args.t) _ _ _ c.any.ensures.ran (YieldsList-from_slice taps cc) (λ x b q k. search (rules, tests))

use mathlib.Core.Path.{◌∙◌}
use borrow.Author.Rules.{rules}
use borrow.Author.Tests.{tests}
use Rattle.std.proofs.lemmas.Iterator.Search.{any_from_yields_List}
use Rattle.std.proofs.lemmas.Iterator.{YieldsList-from_slice}
use Rattle.six.specs.Core.{plays}
use Rattle.six.proofs.CoreLaws.{any-plays}
use Rattle.six.proofs.unit.playback_occuring.Goals as goal

pub returns : goal.returns
returns c = any_from_yields_List plays _ _ _ c.any.ensures.ran (YieldsList-from_slice c.args.voices cc) (λ x b q k. search (rules, tests)) ∙ any-plays c.args.voices

-- The library's search, by the list that the iterator gives.
use Rattle.std.proofs.Common.{rules, nat_eq}
use borrow.Author.Tests.{tests}
use Rattle.std.proofs.lemmas.Iterator.{YieldsList-from_slice}
use Rattle.std.proofs.lemmas.Iterator.Search.{position_from_yields_List}
use Rattle.lines.proofs.WordsLaws.{space_found}
use Rattle.lines.proofs.words.space.Goals as goal

pub returns-clause-value : goal.returns-clause-value
returns-clause-value c =
    let e = position_from_yields_List (λ b. nat_eq b 32) _ _ c.position.result c.position.ensures.ran (YieldsList-from_slice c.args.text.now cc) (λ x b q k. search (rules, tests)) in
    rw (c.unwrap_or.ensures, e, space_found c.args.text.now)

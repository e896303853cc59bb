use Rattle.std.proofs.Common.{arith}
use Rattle.std.proofs.lemmas.Bool.{cases_eq}
use Rattle.std.proofs.lemmas.Grind.{get_or-set_at}
use Rattle.std.proofs.lemmas.List.{get_or-set_other}
use borrow.Author.Rules.{rules}
use Rattle.little.proofs.bytes_at.Goals as goal

pub loop-i-preserved : goal.loop-i-preserved
loop-i-preserved g c = (search rules, λ j h. grind (arith, cases_eq j c.loop-i.i, get_or-set_at, get_or-set_other, c.loop-i.invariant.1 j))

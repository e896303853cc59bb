use Rattle.leaps.proofs.SweepModulateLaws as laws
use borrow.Author.Rules.{rules}
use Rattle.leaps.proofs.sweep_modulate.leap.Goals as goal

pub overflow_add-result : goal.overflow_add-result
overflow_add-result c = search (rules, laws.far-le c.args.s)

pub returns : goal.returns
returns c = laws.leap-is _ _

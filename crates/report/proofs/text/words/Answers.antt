use mathlib.Core.Path.{sym}
use native.Mathlib.Omega.{arith}
use Rattle.little.proofs.LittleLaws.{sets-out}
use Rattle.report.proofs.TextLaws.{copied}
use Rattle.report.proofs.text.words.Goals as goal

pub returns-then-out-at-clause-out_after : goal.returns-then-out-at-clause-out_after
returns-then-out-at-clause-out_after c = sym (sets-out c.args.out.now c.args.at c.args.text.now c.if-out-at.true)

pub returns-clause-out_after : goal.returns-clause-out_after
returns-clause-out_after c = copied c.args.out.now c.args.text.now c.args.at (omega arith) c.min-k.ensures (omega arith) c.copy_from_slice.ensures.after

-- The place never passes the number of entries; each write that is read moves it one on, so that the end is read at that number.
use mathlib.Core.Path.{ap}
use Rattle.std.proofs.Common.{Ok, sym, ◌∙◌, arith}
use Rattle.register_log.proofs.ReaderLaws.{read-write, read-ended, read-refused}
use Rattle.register_log.specs.Log.{edition1}
use Rattle.lister.proofs.entries.Goals as goal

pub returns-in-Ok-None : goal.returns-in-Ok-None
returns-in-Ok-None c =
    let e = read-ended edition1 c.args.log.now _ _ (sym (c.in-Ok-None.is ∙ ap Ok (rw c.in-Ok-None.is at c.in-Ok-None.field-0-is)) ∙ c.read_on-s.ensures.0) in
    omega (arith, e, c.loop-at.invariant)

pub returns-in-Err : goal.returns-in-Err
returns-in-Err c =
    let e = read-refused edition1 c.args.log.now _ _ (sym c.in-Err.is ∙ c.read_on-s.ensures.0) in
    omega (arith, e, c.loop-at.invariant)

pub loop-at-smaller : goal.loop-at-smaller
loop-at-smaller c =
    let e = read-write edition1 c.args.log.now _ _ (sym (c.in-Ok-Some.is ∙ ap Ok (rw c.in-Ok-Some.is at c.in-Ok-Some.field-0-is)) ∙ c.read_on-s.ensures.0) in
    omega (arith, e.0, e.1, c.read_on-s.ensures.2)

pub loop-at-preserved : goal.loop-at-preserved
loop-at-preserved c =
    let e = read-write edition1 c.args.log.now _ _ (sym (c.in-Ok-Some.is ∙ ap Ok (rw c.in-Ok-Some.is at c.in-Ok-Some.field-0-is)) ∙ c.read_on-s.ensures.0) in
    omega (arith, e.0, e.1, c.read_on-s.ensures.2)

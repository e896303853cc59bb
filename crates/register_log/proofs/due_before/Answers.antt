use Rattle.std.proofs.lemmas.Result.{err_from_is_err_and}
use Rattle.register_log.proofs.LogLaws as laws
use Rattle.register_log.specs.Log.{edition1}
use Rattle.register_log.proofs.due_before.Goals as goal

pub returns-in_err-count : goal.returns-in_err-count
returns-in_err-count c =
    let p = err_from_is_err_and c.from_residual.result c.from_residual.ensures.1 in
    rw (p.1, p.2) (laws.count-tells _ _ _ (laws.counted-refused edition1 c.args.log.now _ c.check_log.ensures.0 c.in_err-count.was))

pub returns : goal.returns
returns c = laws.count-tells _ _ _ (laws.counted-in edition1 c.args.log.now _ c.check_log.ensures.0 c.in_ok-count.was c.count_due.ensures)

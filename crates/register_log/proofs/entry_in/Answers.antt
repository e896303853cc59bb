use Rattle.std.proofs.lemmas.Result.{err_from_is_err_and}
use Rattle.register_log.proofs.LogLaws as laws
use Rattle.register_log.specs.Log.{edition1}
use Rattle.register_log.proofs.entry_in.Goals as goal

pub returns-in_err-count : goal.returns-in_err-count
returns-in_err-count c =
    let p = err_from_is_err_and c.from_residual.result c.from_residual.ensures.1 in
    rw (p.1, p.2) (laws.read-tells _ _ _ _ (laws.entry-refused edition1 c.args.log.now _ c.in_err-count.was))

pub returns-then-index-count : goal.returns-then-index-count
returns-then-index-count c = laws.read-tells _ _ _ _ (laws.entry_read edition1 c.args.log.now c.in_ok-count.was c.if-index-count.true c.write_at.ensures)

pub returns : goal.returns
returns c = laws.read-tells _ _ _ _ (laws.entry-ended edition1 c.args.log.now c.in_ok-count.was c.if-index-count.false)

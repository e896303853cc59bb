use mathlib.Core.Path.{sym, ◌∙◌}
use Rattle.std.proofs.lemmas.Result.{err_from_is_err_and}
use Rattle.player.proofs.PlayerLaws as laws
use Rattle.player.proofs.standing.Goals as goal

pub returns-in_err-l : goal.returns-in_err-l
returns-in_err-l c =
    let p = err_from_is_err_and c.from_residual.result c.from_residual.ensures.1 in
    rw (p.1, p.2) (laws.standing-log c.args.p.now c.args.log.now c.check_log.ensures.0 c.in_err-l.was)

pub returns-then-not-in_range : goal.returns-then-not-in_range
returns-then-not-in_range c = laws.standing-state c.args.p.now c.args.log.now c.check_log.ensures.0 c.in_ok-l.was (sym c.in_range.ensures ∙ c.if-not-in_range.true)

pub returns-then-not-has_place : goal.returns-then-not-has_place
returns-then-not-has_place c =
    laws.standing-place c.args.p.now c.args.log.now c.check_log.ensures.0 c.in_ok-l.was (sym c.in_range.ensures ∙ c.if-not-in_range.false) c.has_place.ensures c.if-not-has_place.true

pub returns : goal.returns
returns c =
    laws.standing-done c.args.p.now c.args.log.now c.check_log.ensures.0 c.in_ok-l.was (sym c.in_range.ensures ∙ c.if-not-in_range.false) c.has_place.ensures c.if-not-has_place.false

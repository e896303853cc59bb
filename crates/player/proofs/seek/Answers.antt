use mathlib.Core.Path.{◌∙◌}
use Rattle.std.proofs.lemmas.Result.{err_from_is_err_and}
use Rattle.player.proofs.PlayerLaws as laws
use Rattle.player.proofs.seek.Goals.{then-target-p, else-target-p}
use Rattle.player.proofs.seek.Goals as goal

pub returns-in_err-l : goal.returns-in_err-l
returns-in_err-l c =
    let p = err_from_is_err_and c.from_residual.result c.from_residual.ensures.1 in
    rw (p.1, p.2) (laws.seek-standing c.args.p.now c.args.target c.args.log.now (laws.fallen c.args.log.now _ c.standing.ensures c.in_err-l.was))

pub returns-then-target-l : goal.returns-then-target-l
returns-then-target-l c = let s = laws.passed c.args.log.now _ c.standing.ensures c.in_ok-l.was in laws.seek-beyond c.args.p.now c.args.target c.args.log.now s.0 s.1 c.if-target-l.true

pub skip_to-requires : goal.skip_to-requires
skip_to-requires c =
    let s = laws.passed c.args.log.now _ c.standing.ensures c.in_ok-l.was in
    elim c.if-target-p.branch [
      | then-target-p w ↦ laws.walk-again c.args.p.now c.args.log.now s.0 s.1 (w.p-is ∙ w.restart.ensures) c.args.target
      | else-target-p w ↦ rw w.p-is (laws.walk-on c.args.p.now c.args.log.now s.0 s.1 w.if-target-p.false)
    ]

pub returns : goal.returns
returns c =
    let s = laws.passed c.args.log.now _ c.standing.ensures c.in_ok-l.was in
    elim c.if-target-p.branch [
      | then-target-p w ↦ laws.seek-again c.args.p.now c.args.target c.args.log.now s.0 s.1 c.if-target-l.false w.if-target-p.true (w.p-is ∙ w.restart.ensures) c.skip_to.ensures
      | else-target-p w ↦ laws.seek-on c.args.p.now c.args.target c.args.log.now s.0 s.1 c.if-target-l.false w.if-target-p.false (rw w.p-is at c.skip_to.ensures)
    ]

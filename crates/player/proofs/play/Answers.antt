use Rattle.std.specs.Prelude.{◌+◌, ◌/◌, ◌≤◌}
use native.Mathlib.Omega.{arith}
use Rattle.std.proofs.lemmas.Result.{err_from_is_err_and}
use Rattle.player.proofs.PlayerLaws as laws
use Rattle.player.proofs.play.Goals as goal

pub returns-in_err-l : goal.returns-in_err-l
returns-in_err-l c =
    let p = err_from_is_err_and c.from_residual.result c.from_residual.ensures.1 in
    rw (p.1, p.2) (laws.play-standing c.args.p.now c.args.n c.args.log.now c.args.out.now (laws.fallen c.args.log.now _ c.standing.ensures c.in_err-l.was))

pub returns-then-target-l : goal.returns-then-target-l
returns-then-target-l c = let s = laws.passed c.args.log.now _ c.standing.ensures c.in_ok-l.was in laws.play-beyond c.args.p.now c.args.n c.args.log.now c.args.out.now s.0 s.1 c.if-target-l.true

pub returns-then-frames-out : goal.returns-then-frames-out
returns-then-frames-out c = let s = laws.passed c.args.log.now _ c.standing.ensures c.in_ok-l.was in laws.play-roomless c.args.p.now c.args.n c.args.log.now c.args.out.now s.0 s.1 c.if-target-l.false c.frames_due-frames.ensures c.if-frames-out.true

pub run_to-counts-requires : goal.run_to-counts-requires
run_to-counts-requires c = let s = laws.passed c.args.log.now _ c.standing.ensures c.in_ok-l.was in laws.play-walks c.args.p.now c.args.n c.args.log.now c.args.out.now s.0 s.1 c.if-target-l.false c.frames_due-frames.ensures c.if-frames-out.false

pub overflow_cast-result : goal.overflow_cast-result
overflow_cast-result c =
    let s = laws.passed c.args.log.now _ c.standing.ensures c.in_ok-l.was in
    let due : c.frames_due-frames.result ≤ (479 + c.args.n) / 480 = laws.play-due c.args.p.now c.args.n c.args.log.now c.args.out.now s.0 s.1 c.if-target-l.false c.frames_due-frames.ensures in
    omega (arith, due, c.ranges.n)

pub returns : goal.returns
returns c = let s = laws.passed c.args.log.now _ c.standing.ensures c.in_ok-l.was in laws.play-done c.args.p.now c.args.n c.args.log.now c.args.out.now s.0 s.1 c.if-target-l.false c.frames_due-frames.ensures c.if-frames-out.false c.run_to-counts.ensures.player_value c.run_to-counts.ensures.counts_value c.run_to-counts.ensures.out_after

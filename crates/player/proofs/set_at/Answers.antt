use Rattle.std.proofs.lemmas.Result.{err_from_is_err_and}
use Rattle.player.proofs.PlayerLaws as laws
use Rattle.player.proofs.set_at.Goals as goal

pub returns-in_err-standing : goal.returns-in_err-standing
returns-in_err-standing c =
    let p = err_from_is_err_and c.from_residual.result c.from_residual.ensures.1 in
    rw (p.1, p.2) (laws.set-standing c.args.p.now c.args.log.now c.args.memory.now c.args.slot c.args.above (laws.fallen c.args.log.now _ c.standing.ensures c.in_err-standing.was))

pub returns-then-memory-lt-MEMORY_SIZE : goal.returns-then-memory-lt-MEMORY_SIZE
returns-then-memory-lt-MEMORY_SIZE c = let s = laws.passed c.args.log.now _ c.standing.ensures c.in_ok-standing.was in laws.set-roomless c.args.p.now c.args.log.now c.args.memory.now c.args.slot c.args.above s.0 c.if-memory-lt-MEMORY_SIZE.true

pub returns-then-slot-gt15 : goal.returns-then-slot-gt15
returns-then-slot-gt15 c = let s = laws.passed c.args.log.now _ c.standing.ensures c.in_ok-standing.was in laws.set-above c.args.p.now c.args.log.now c.args.memory.now c.args.slot c.args.above s.0 c.if-memory-lt-MEMORY_SIZE.false c.if-slot-gt15.true

pub keep-requires : goal.keep-requires
keep-requires c = let s = laws.passed c.args.log.now _ c.standing.ensures c.in_ok-standing.was in laws.set-keeps c.args.p.now c.args.log.now c.args.memory.now c.args.slot c.args.above s.0 c.if-memory-lt-MEMORY_SIZE.false c.if-slot-gt15.false

pub returns : goal.returns
returns c = let s = laws.passed c.args.log.now _ c.standing.ensures c.in_ok-standing.was in laws.set-done c.args.p.now c.args.log.now c.args.memory.now c.args.slot c.args.above s.0 c.if-memory-lt-MEMORY_SIZE.false c.if-slot-gt15.false c.keep.ensures c.with_mark-p.ensures

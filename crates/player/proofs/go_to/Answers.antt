use mathlib.Core.Path.{sym, ◌∙◌}
use Rattle.std.proofs.lemmas.Result.{err_from_is_err_and}
use Rattle.player.proofs.PlayerLaws as laws
use Rattle.player.proofs.go_to.Goals as goal

pub returns-in_err-l : goal.returns-in_err-l
returns-in_err-l c =
    let p = err_from_is_err_and c.from_residual.result c.from_residual.ensures.1 in
    rw (p.1, p.2) (laws.go-standing c.args.p.now c.args.slot c.args.log.now c.args.memory.now (laws.fallen c.args.log.now _ c.standing.ensures c.in_err-l.was))

pub returns-then-memory-lt-MEMORY_SIZE : goal.returns-then-memory-lt-MEMORY_SIZE
returns-then-memory-lt-MEMORY_SIZE c = let s = laws.passed c.args.log.now _ c.standing.ensures c.in_ok-l.was in laws.go-roomless c.args.p.now c.args.slot c.args.log.now c.args.memory.now s.0 c.if-memory-lt-MEMORY_SIZE.true

pub returns-then-slot-gt15 : goal.returns-then-slot-gt15
returns-then-slot-gt15 c = let s = laws.passed c.args.log.now _ c.standing.ensures c.in_ok-l.was in laws.go-number c.args.p.now c.args.slot c.args.log.now c.args.memory.now s.0 c.if-memory-lt-MEMORY_SIZE.false c.if-slot-gt15.true

pub returns-then-not-is_set : goal.returns-then-not-is_set
returns-then-not-is_set c = let s = laws.passed c.args.log.now _ c.standing.ensures c.in_ok-l.was in laws.go-unset c.args.p.now c.args.slot c.args.log.now c.args.memory.now s.0 c.if-memory-lt-MEMORY_SIZE.false c.if-slot-gt15.false (sym c.is_set.ensures ∙ c.if-not-is_set.true)

pub returns-in_err-image : goal.returns-in_err-image
returns-in_err-image c =
    let s = laws.passed c.args.log.now _ c.standing.ensures c.in_ok-l.was in
    let p = err_from_is_err_and c.from_residual-in_err-image.result c.from_residual-in_err-image.ensures.1 in
    rw (p.1, p.2) (laws.go-image c.args.p.now c.args.slot c.args.log.now c.args.memory.now s.0 c.if-memory-lt-MEMORY_SIZE.false c.if-slot-gt15.false (sym c.is_set.ensures ∙ c.if-not-is_set.false) c.slot_place-at.ensures c.read_image-image.ensures.0 c.in_err-image.was)

pub returns-then-not-has_place : goal.returns-then-not-has_place
returns-then-not-has_place c = let s = laws.passed c.args.log.now _ c.standing.ensures c.in_ok-l.was in laws.go-place c.args.p.now c.args.slot c.args.log.now c.args.memory.now s.0 c.if-memory-lt-MEMORY_SIZE.false c.if-slot-gt15.false (sym c.is_set.ensures ∙ c.if-not-is_set.false) c.slot_place-at.ensures c.read_image-image.ensures.0 c.in_ok-image.was s.1 c.u32_at-cycle.ensures c.u32_at-applied.ensures c.has_place.ensures c.if-not-has_place.true

pub returns : goal.returns
returns c = let s = laws.passed c.args.log.now _ c.standing.ensures c.in_ok-l.was in laws.go-done c.args.p.now c.args.slot c.args.log.now c.args.memory.now s.0 c.if-memory-lt-MEMORY_SIZE.false c.if-slot-gt15.false (sym c.is_set.ensures ∙ c.if-not-is_set.false) c.slot_place-at.ensures c.read_image-image.ensures.0 c.in_ok-image.was s.1 c.u32_at-cycle.ensures c.u32_at-applied.ensures c.has_place.ensures c.if-not-has_place.false

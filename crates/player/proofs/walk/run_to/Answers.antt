use borrow.Author.Rules.{rules}
use Rattle.player.proofs.WalkLaws as laws
use Rattle.std.specs.Prelude.{◌*◌, ◌^◌, ◌<◌, length}
use mathlib.Core.Path.{refl}
use native.Mathlib.Omega.{arith}
use Rattle.player.proofs.walk.run_to.Goals as goal

pub loop-cycle-init : goal.loop-cycle-init
loop-cycle-init c = laws.log-plays c.args.log.now c.args.count c.args.p.now c.args.target c.requires.0 c.args.out.now c.default-counts.ensures

pub count_said-requires : goal.count_said-requires
count_said-requires c = laws.log-counts c.args.log.now c.args.count c.args.p.now c.args.target c.requires.0 c.loop-cycle.invariant

pub overflow_add-applied : goal.overflow_add-applied
overflow_add-applied c = omega (arith, laws.log-left c.args.log.now c.args.count c.args.p.now c.args.target c.requires.0 (laws.skips c.args.log.now c.args.count c.args.p.now c.args.target c.loop-cycle.invariant) c.next_due-due.ensures c.loop-cycle-test.true c.if-due-cycle.true, c.ranges.count)

pub loop-cycle-smaller-then-due-cycle : goal.loop-cycle-smaller-then-due-cycle
loop-cycle-smaller-then-due-cycle c = omega (arith, laws.log-left c.args.log.now c.args.count c.args.p.now c.args.target c.requires.0 (laws.skips c.args.log.now c.args.count c.args.p.now c.args.target c.loop-cycle.invariant) c.next_due-due.ensures c.loop-cycle-test.true c.if-due-cycle.true)

pub loop-cycle-preserved-then-due-cycle : goal.loop-cycle-preserved-then-due-cycle
loop-cycle-preserved-then-due-cycle c =
    laws.plays-wrote c.args.log.now c.args.count c.args.p.now c.args.target c.loop-cycle.invariant (laws.log-entry c.args.log.now c.args.count c.args.p.now c.args.target c.requires.0 (laws.skips c.args.log.now c.args.count c.args.p.now c.args.target c.loop-cycle.invariant) c.next_due-due.ensures c.loop-cycle-test.true c.if-due-cycle.true c.write_at-w.ensures (search rules)) c.says.ensures c.count_said.ensures c.written.ensures

pub overflow_mul-at : goal.overflow_mul-at
overflow_mul-at c =
    let room = laws.plays-room c.args.log.now c.args.count c.args.p.now c.args.target c.loop-cycle.invariant c.requires.0.ranged c.requires.1 (laws.log-quiet c.args.log.now c.args.count c.args.p.now c.args.target c.requires.0 (laws.skips c.args.log.now c.args.count c.args.p.now c.args.target c.loop-cycle.invariant) c.next_due-due.ensures c.if-due-cycle.false) c.frames_due-made.ensures in
    let sides : length c.args.out.now * 2 < 2 ^ 63 = omega arith in omega (arith, room.2, sides)

pub overflow_add-at : goal.overflow_add-at
overflow_add-at c =
    let room = laws.plays-room c.args.log.now c.args.count c.args.p.now c.args.target c.loop-cycle.invariant c.requires.0.ranged c.requires.1 (laws.log-quiet c.args.log.now c.args.count c.args.p.now c.args.target c.requires.0 (laws.skips c.args.log.now c.args.count c.args.p.now c.args.target c.loop-cycle.invariant) c.next_due-due.ensures c.if-due-cycle.false) c.frames_due-made.ensures in
    let sides : length c.args.out.now * 2 < 2 ^ 63 = omega arith in omega (arith, room.2, sides)

pub loop-cycle-preserved : goal.loop-cycle-preserved
loop-cycle-preserved c =
    laws.plays-ran c.args.log.now c.args.count c.args.p.now c.args.target c.loop-cycle.invariant c.requires.0.ranged c.requires.1 (laws.log-quiet c.args.log.now c.args.count c.args.p.now c.args.target c.requires.0 (laws.skips c.args.log.now c.args.count c.args.p.now c.args.target c.loop-cycle.invariant) c.next_due-due.ensures c.if-due-cycle.false) c.frames_due-made.ensures refl c.ran-unit.ensures.0 c.ran-unit.ensures.1

pub returns-clause-player_value : goal.returns-clause-player_value
returns-clause-player_value c = laws.skipped c.args.log.now c.args.count c.args.p.now c.args.target (laws.skips c.args.log.now c.args.count c.args.p.now c.args.target c.loop-cycle.invariant) c.requires.0.ahead c.loop-cycle-test.false

pub returns-clause-counts_value : goal.returns-clause-counts_value
returns-clause-counts_value c =
    laws.play-counted (laws.Log c.args.log.now c.args.count) c.args.p.now.unit c.args.p.now.cycle c.args.target c.requires.0.ranged c.args.out.now c.requires.1 c.loop-cycle.invariant.0 c.loop-cycle-test.false

pub returns-clause-out_after : goal.returns-clause-out_after
returns-clause-out_after c =
    laws.play-ends (laws.Log c.args.log.now c.args.count) c.args.p.now.unit c.args.p.now.cycle c.args.target c.requires.0.ranged c.args.out.now c.requires.1 c.loop-cycle.invariant.0 c.loop-cycle-test.false

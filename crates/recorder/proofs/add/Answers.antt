use Rattle.recorder.proofs.RecorderLaws as laws
use Rattle.register_log.specs.Log.{edition1}
use lib.ListN.{length}
use Rattle.recorder.proofs.add.Goals as goal

pub returns-then-r-cycle : goal.returns-then-r-cycle
returns-then-r-cycle c = laws.refuses _ _ _ _ (laws.add-earlier edition1 (length c.args.buffer.now) c.args.r.now c.args.cycle c.if-r-cycle.true)

pub returns-then-r-ge1000000 : goal.returns-then-r-ge1000000
returns-then-r-ge1000000 c = laws.refuses _ _ _ _ (laws.add-full edition1 (length c.args.buffer.now) c.args.r.now c.args.cycle c.if-r-cycle.false c.if-r-ge1000000.true)

pub returns-then-buffer-entry_place : goal.returns-then-buffer-entry_place
returns-then-buffer-entry_place c = laws.refuses _ _ _ _ (laws.add-roomless edition1 (length c.args.buffer.now) c.args.r.now c.args.cycle c.if-r-cycle.false c.if-r-ge1000000.false (laws.next_place c.args.r.now.entries c.entry_place.ensures) c.if-buffer-entry_place.true)

pub returns : goal.returns
returns c = laws.takes _ _ _ _ (laws.add-passes edition1 (length c.args.buffer.now) c.args.r.now c.args.cycle c.if-r-cycle.false c.if-r-ge1000000.false (laws.next_place c.args.r.now.entries c.entry_place.ensures) c.if-buffer-entry_place.false) (laws.one_more _ _) c.put_entry.ensures

use mathlib.Core.Path.{refl}
use Rattle.recorder.proofs.RecorderLaws as laws
use Rattle.register_log.specs.Log.{edition1}
use lib.ListN.{length}
use Rattle.recorder.proofs.finish.Goals as goal

pub returns-then-r-cycles : goal.returns-then-r-cycles
returns-then-r-cycles c = laws.refuses _ _ _ _ (laws.finish-low edition1 (length c.args.buffer.now) c.args.r c.args.cycles c.if-r-cycles.true)

pub returns-then-r-gt1000000 : goal.returns-then-r-gt1000000
returns-then-r-gt1000000 c = laws.refuses _ _ _ _ (laws.finish-full edition1 (length c.args.buffer.now) c.args.r c.args.cycles c.if-r-cycles.false c.if-r-gt1000000.true)

pub returns-then-buffer-entry_place : goal.returns-then-buffer-entry_place
returns-then-buffer-entry_place c = laws.refuses _ _ _ _ (laws.finish-roomless edition1 (length c.args.buffer.now) c.args.r c.args.cycles c.if-r-cycles.false c.if-r-gt1000000.false c.entry_place.ensures c.if-buffer-entry_place.true)

pub returns : goal.returns
returns c = laws.takes _ _ _ _ (laws.finish-passes edition1 (length c.args.buffer.now) c.args.r c.args.cycles c.if-r-cycles.false c.if-r-gt1000000.false c.entry_place.ensures c.if-buffer-entry_place.false) refl c.put_header.ensures

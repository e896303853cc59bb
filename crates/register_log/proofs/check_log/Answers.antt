use Rattle.register_log.proofs.LogLaws as laws
use Rattle.register_log.specs.Log.{edition1}
use mathlib.Core.Path.{◌∙◌}
use Rattle.register_log.proofs.check_log.Goals as goal

pub returns-then-log-lt16 : goal.returns-then-log-lt16
returns-then-log-lt16 c = laws.refused _ _ (laws.too_short edition1 c.args.log.now c.if-log-lt16.true)

pub returns-then-u16_at-ne1 : goal.returns-then-u16_at-ne1
returns-then-u16_at-ne1 c = laws.refused _ _ (laws.wrong-edition edition1 c.args.log.now c.if-log-lt16.false c.u16_at.ensures c.if-u16_at-ne1.true)

pub returns-then-u16_at-u32_at : goal.returns-then-u16_at-u32_at
returns-then-u16_at-u32_at c = laws.refused _ _ (laws.wrong-header edition1 c.args.log.now c.if-log-lt16.false c.u16_at.ensures c.if-u16_at-ne1.false c.u16_at-2.ensures c.u32_at.ensures c.if-u16_at-u32_at.true)

pub returns-then-count-gt1000000 : goal.returns-then-count-gt1000000
returns-then-count-gt1000000 c = laws.refused _ _ (laws.too_many edition1 c.args.log.now c.if-log-lt16.false c.u16_at.ensures c.if-u16_at-ne1.false c.u16_at-2.ensures c.u32_at.ensures c.if-u16_at-u32_at.false c.u32_at-count.ensures c.if-count-gt1000000.true)

pub returns-then-log-entry_place : goal.returns-then-log-entry_place
returns-then-log-entry_place c = laws.refused _ _ (laws.wrong_size edition1 c.args.log.now c.if-log-lt16.false c.u16_at.ensures c.if-u16_at-ne1.false c.u16_at-2.ensures c.u32_at.ensures c.if-u16_at-u32_at.false c.u32_at-count.ensures c.if-count-gt1000000.false c.entry_place.ensures c.if-log-entry_place.true)

pub returns : goal.returns
returns c = laws.check-tells _ _ (c.check_entries.ensures ∙ laws.then-entries edition1 c.args.log.now c.if-log-lt16.false c.u16_at.ensures c.if-u16_at-ne1.false c.u16_at-2.ensures c.u32_at.ensures c.if-u16_at-u32_at.false c.u32_at-count.ensures c.if-count-gt1000000.false c.entry_place.ensures c.if-log-entry_place.false c.u32_at-2.ensures)

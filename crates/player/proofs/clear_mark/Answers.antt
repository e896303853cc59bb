use mathlib.Core.Path.{sym, ◌∙◌}
use Rattle.player.proofs.PlayerLaws as laws
use Rattle.player.proofs.clear_mark.Goals as goal

pub returns-then-not-in_range : goal.returns-then-not-in_range
returns-then-not-in_range c = laws.clear-state c.args.p.now c.args.slot (sym c.in_range.ensures ∙ c.if-not-in_range.true)

pub returns-then-slot-gt15 : goal.returns-then-slot-gt15
returns-then-slot-gt15 c = laws.clear-number c.args.p.now c.args.slot (sym c.in_range.ensures ∙ c.if-not-in_range.false) c.if-slot-gt15.true

pub returns-then-not-is_set : goal.returns-then-not-is_set
returns-then-not-is_set c = laws.clear-unset c.args.p.now c.args.slot (sym c.in_range.ensures ∙ c.if-not-in_range.false) c.if-slot-gt15.false (sym c.is_set.ensures ∙ c.if-not-is_set.true)

pub returns : goal.returns
returns c = laws.clear-done c.args.p.now c.args.slot (sym c.in_range.ensures ∙ c.if-not-in_range.false) c.if-slot-gt15.false (sym c.is_set.ensures ∙ c.if-not-is_set.false) c.without_mark-p.ensures

use mathlib.Core.Path.{sym, ◌∙◌}
use Rattle.image.proofs.CallLaws as laws
use Rattle.image.proofs.write_image.Goals as goal

pub returns-then-not-in_range : goal.returns-then-not-in_range
returns-then-not-in_range c = laws.wrote-state c.args.u c.args.out.now (sym c.in_range.ensures ∙ c.if-not-in_range.true)

pub returns-then-out-lt-SIZE : goal.returns-then-out-lt-SIZE
returns-then-out-lt-SIZE c = laws.wrote-room c.args.u c.args.out.now (sym c.in_range.ensures ∙ c.if-not-in_range.false) c.if-out-lt-SIZE.true

pub returns : goal.returns
returns c = laws.wrote c.args.u c.args.out.now (sym c.in_range.ensures ∙ c.if-not-in_range.false) c.if-out-lt-SIZE.false c.fields_of.ensures c.put_fields.ensures

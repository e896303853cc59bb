use Rattle.std.proofs.Common.{◌∙◌}
use Rattle.fields.proofs.FieldsLaws as laws
use Rattle.fields.proofs.flags.Goals as goal

pub returns : goal.returns
returns c = c.from-6.ensures ∙ laws.flags-or _ _ _ _ _ c.from.ensures c.from-2.ensures c.from-3.ensures c.from-4.ensures c.from-5.ensures

use Rattle.std.proofs.Common.{arith, rules}
use Rattle.fields.proofs.FieldsLaws as laws
use Rattle.fields.proofs.lay.Goals as goal

pub returns : goal.returns
returns c = laws.laid-there c.args.f.now c.args.values.now c.copy_from_slice.new.self c.args.at _ c.copy_from_slice.ensures.after (omega arith) (search rules)

use Rattle.fields.proofs.FieldsLaws as laws
use Rattle.fields.proofs.byte_of.Goals as goal

pub returns : goal.returns
returns c = laws.byte-of c.args.entry c.ranges.entry c.addend.ensures c.from.ensures

use Rattle.std.proofs.Common.{refl, rules}
use Rattle.fields.specs.Fields.{blocks_of}
use Rattle.fields.proofs.FieldsLaws as laws
use Rattle.fields.proofs.lay_voices.Goals as goal

pub loop-i-init : goal.loop-i-init
unfolding blocks_of
loop-i-init c = refl

pub loop-i-preserved : goal.loop-i-preserved
loop-i-preserved c =
    laws.blocks_more c.args.f.now c.args.voices.now c.loop-i.i _ c.loop-i.invariant (search rules) c.voice_fields.ensures c.lay.ensures

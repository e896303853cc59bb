use Rattle.std.proofs.Common.{◌≡◌, rules, arith, length, ◌∙◌}
use Rattle.fields.proofs.FieldsLaws as laws
use Rattle.fields.proofs.voices_of.Goals as goal

pub returns : goal.returns
returns c =
    let f = c.args.f.now in
    let z : length f ≡ 326 = search rules in
    let e = c.as_chunks.ensures.front in
    laws.voices-by f (c.wave_of.ensures ∙ laws.same-wave _ _ (laws.block-at f 0 _ z (omega arith) e))
    (c.wave_of-2.ensures ∙ laws.same-wave _ _ (laws.block-at f 1 _ z (omega arith) e))
    (c.wave_of-3.ensures ∙ laws.same-wave _ _ (laws.block-at f 2 _ z (omega arith) e))
    (c.wave_of-4.ensures ∙ laws.same-wave _ _ (laws.block-at f 3 _ z (omega arith) e))
    (c.swept_of.ensures ∙ laws.same-swept _ _ (laws.block-at f 4 _ z (omega arith) e) _)
    (c.noise_of.ensures ∙ laws.same-noise _ _ (laws.block-at f 5 _ z (omega arith) e))

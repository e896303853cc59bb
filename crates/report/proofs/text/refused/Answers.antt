-- Two pieces, one after the other.
use Prim.Native.Nat.{ℕ}
use mathlib.Core.Path.{ap, ◌∙◌}
use mathlib.Core.List.{[], ◌∷◌, ◌++◌}
use Rattle.report.specs.Text.{decimal_of}
use Rattle.report.proofs.TextLaws.{Laid, laid, joined}
use Rattle.report.proofs.text.refused.Goals as goal

pub returns-clause-out_after : goal.returns-clause-out_after
returns-clause-out_after c =
    let f : Laid _ _ _ _ _ =
    joined
    (laid c.args.out.now _ _ (ap (λ (n : ℕ). (114 ∷ 101 ∷ 102 ∷ 117 ∷ 115 ∷ 101 ∷ 100 ∷ 32 ∷ []) ++ decimal_of n) (c.from.ensures ∙ c.number.ensures)) (c.labelled-a.ensures.value, c.labelled-a.ensures.out_after))
    (laid _ _ _ (ap (λ (n : ℕ). (32 ∷ []) ++ decimal_of n) (c.from-2.ensures ∙ c.carried.ensures)) (c.labelled.ensures.value, c.labelled.ensures.out_after))
    in f.held

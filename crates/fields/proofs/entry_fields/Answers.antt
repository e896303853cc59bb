use Rattle.std.proofs.Common.{rules, pos, sym, ◌∙◌}
use Rattle.std.proofs.lemmas.List.{length-map, get_or-map}
use Rattle.std.proofs.lemmas.Grind.{same_number_lists}
use Rattle.fields.specs.Fields.{byte_of}
use Rattle.fields.proofs.entry_fields.Goals as goal

pub returns : goal.returns
returns c =
    same_number_lists _ _ (rw length-map (search rules))
    (λ k h. let e = c.map.ensures.items.at k (pos 0) 0 (search rules) in search rules ∙ sym (get_or-map byte_of c.args.modulation k (pos 0) 0 (search rules)))

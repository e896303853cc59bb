use Rattle.std.specs.Prelude.{◌≡◌, true}
use Rattle.six.specs.Core.{voices_in_range}
use Rattle.vsu.specs.Core.{in_range, run}
use Rattle.vsu.specs.declared.unit.Vsu.{Vsu}
use Rattle.vsu.proofs.RunLaws as laws
use Rattle.vsu.proofs.RangeLaws.{range-facts, run-voices}
use mathlib.Core.Path.{◌∙◌, sym}
use Rattle.vsu.proofs.unit.skip.Goals as goal

now : (u : Vsu) → in_range u ≡ true → voices_in_range u.voices ≡ true
unfolding run
now u h = run-voices 0 u h

pub returns : goal.returns
returns g c = laws.run_is _ _ (c.cycles.ensures (now _ c.requires) ∙ sym (laws.voices-at _ _)) (c.output_after.ensures ∙ sym (laws.output-at _ (range-facts _ c.requires).output _))

use Rattle.six.proofs.CoreLaws.{after-walk}
use Rattle.six.proofs.unit.cycle.Goals as goal

pub returns : goal.returns
returns c = after-walk _ _ c.step_voices-stepped.ensures c.step_sweep_modulate.ensures

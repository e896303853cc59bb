use Rattle.register_log.proofs.AcceptedLaws as laws
use mathlib.Core.Path.{refl}
use Rattle.register_log.specs.Log.{edition1, stands_at}
use Rattle.register_log.proofs.stands_at.Goals as goal

pub returns : goal.returns
unfolding stands_at
returns c =
    let both = laws.both-stand edition1 c.args.log.now c.args.count c.args.cycle c.args.number (rw (c.due_at-next.ensures, c.due_earlier-earlier.ensures) refl) in
    record { value = both.0; by_index = both.1 }

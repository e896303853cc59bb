use Rattle.image.proofs.CallLaws as laws
use Rattle.image.proofs.read_image.Goals as goal

pub returns-then-b-ne-SIZE : goal.returns-then-b-ne-SIZE
returns-then-b-ne-SIZE c = laws.read-size c.args.b.now c.if-b-ne-SIZE.true c.refused.ensures

pub returns-in-Err : goal.returns-in-Err
returns-in-Err c = laws.read-refused c.args.b.now c.edition_in-edition.ensures c.if-b-ne-SIZE.false c.take_fields-f.ensures c.check_fields.ensures c.in-Err.is c.refused-in-Err.ensures

pub returns-in-Ok : goal.returns-in-Ok
returns-in-Ok c = laws.read_done c.args.b.now c.edition_in-edition.ensures c.if-b-ne-SIZE.false c.take_fields-f.ensures c.check_fields.ensures c.in-Ok.is c.state_of.ensures

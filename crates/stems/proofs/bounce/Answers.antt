use Rattle.std.proofs.lemmas.Result.{err_from_is_err_and}
use Rattle.stems.proofs.StemsLaws as laws
use Rattle.stems.proofs.bounce.Goals as goal

pub returns-in_err-frames : goal.returns-in_err-frames
returns-in_err-frames c =
    let p = err_from_is_err_and c.from_residual.result c.from_residual.ensures.1 in
    rw (p.1, p.2) (laws.unbounced c.args.p.now c.args.n c.args.log.now c.args.one.now c.args.two.now c.args.three.now c.args.four.now c.args.five.now c.args.six.now c.args.mix.now c.shortest-room.ensures c.render.ensures.0 c.render.ensures.1 c.in_err-frames.was)

pub returns : goal.returns
returns c = laws.bounced c.args.p.now c.args.n c.args.log.now c.args.one.now c.args.two.now c.args.three.now c.args.four.now c.args.five.now c.args.six.now c.args.mix.now c.shortest-room.ensures c.render.ensures.0 c.render.ensures.1 c.in_ok-frames.was c.render-2.ensures.1 c.render-3.ensures.1 c.render-4.ensures.1 c.render-5.ensures.1 c.render-6.ensures.1 c.render-7.ensures.1

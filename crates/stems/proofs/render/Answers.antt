use Rattle.std.proofs.lemmas.Result.{err_from_is_err_and}
use Rattle.stems.proofs.StemsLaws as laws
use Rattle.stems.proofs.render.Goals as goal

pub returns-in_err-played : goal.returns-in_err-played
returns-in_err-played c =
    let p = err_from_is_err_and c.from_residual.result c.from_residual.ensures.1 in
    rw (p.1, p.2) (laws.made-none c.args.p.now c.args.n c.args.log.now c.args.mutes c.requires.0 c.args.room c.args.out.now c.requires.1 c.mute.ensures.1 c.play.ensures.0 c.play.ensures.2 c.in_err-played.was)

pub returns : goal.returns
returns c =
    laws.made-some c.args.p.now c.args.n c.args.log.now c.args.mutes c.requires.0 c.args.room c.args.out.now c.requires.1 c.mute.ensures.1 c.play.ensures.0 c.play.ensures.2 c.in_ok-played.was

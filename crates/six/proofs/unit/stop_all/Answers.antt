use Rattle.std.specs.Prelude.{◌≡◌, length}
use mathlib.Core.Path.{sym, ◌∙◌}
use native.Mathlib.Omega.{arith}
use borrow.Author.Rules.{rules}
use borrow.Author.Tests.{tests}
use Rattle.voice.specs.ChannelEnum.{stop_voice}
use Rattle.six.proofs.Upto.{map-is}
use Rattle.six.proofs.unit.stop_all.Goals as goal

pub returns : goal.returns
returns c =
    let m = c.map.ensures.items in
    let six : length c.args.voices ≡ 6 = search rules in
    map-is stop_voice c.args.voices c.map.result (m.long ∙ sym six) (λ i d e k. let q = m.at i d e (omega (arith, six)) in search (rules, tests, q))

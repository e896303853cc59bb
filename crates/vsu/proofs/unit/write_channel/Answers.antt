use Rattle.vsu.proofs.CoreLaws as laws
use native.Mathlib.Omega.{arith}
use Rattle.std.specs.Prelude.{◌≡◌, length}
use borrow.Author.Rules.{rules}
use Rattle.vsu.proofs.unit.write_channel.Goals as goal

pub returns-then-index-lt6 : goal.returns-then-index-lt6
returns-then-index-lt6 c = laws.channel-written _ _ _ _ c.set_u8.ensures

pub returns-else-index-lt6 : goal.returns-else-index-lt6
returns-else-index-lt6 c = let long : length c.args.u.voices ≡ 6 = search (rules, laws.length-told) in laws.channel-past _ _ _ _ (omega arith)

use Rattle.vsu.proofs.CoreLaws as laws
use Rattle.std.specs.Prelude.{◌≡◌, length}
use native.Mathlib.Omega.{arith}
use borrow.Author.Rules.{rules}
use Rattle.vsu.proofs.unit.says.Goals as goal

pub returns-then-index-lt6 : goal.returns-then-index-lt6
returns-then-index-lt6 c = let long : length c.args.u.voices ≡ 6 = search (rules, laws.length-told) in laws.sorted _ _ c.decode.ensures c.in-Channel.is (laws.sort-channel _ _ _ (omega (arith, long, c.if-index-lt6.true)) c.has_offset.ensures c.taken_where.ensures)

pub returns-in-Wave : goal.returns-in-Wave
returns-in-Wave c = laws.sorted _ _ c.decode.ensures c.in-Wave.is (laws.sort-wave _ _ c.playback_occuring.ensures c.held_while.ensures)

pub returns-in-Modulation : goal.returns-in-Modulation
returns-in-Modulation c = laws.sorted _ _ c.decode.ensures c.in-Modulation.is (laws.sort-modulation _ _ c.held_while-in-Modulation.ensures)

pub returns-else-index-lt6 : goal.returns-else-index-lt6
returns-else-index-lt6 c = let long : length c.args.u.voices ≡ 6 = search (rules, laws.length-told) in laws.sorted _ _ c.decode.ensures c.in-Channel.is (laws.sort-past _ _ _ (omega (arith, long, c.if-index-lt6.false)))

pub returns-in-Stop : goal.returns-in-Stop
returns-in-Stop c = laws.sorted _ _ c.decode.ensures c.in-Stop.is (laws.sort-stop _)

pub returns-in-Nothing : goal.returns-in-Nothing
returns-in-Nothing c = laws.sorted _ _ c.decode.ensures c.in-Nothing.is (laws.sort-nothing _)

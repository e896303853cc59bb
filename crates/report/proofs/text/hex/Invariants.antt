use mathlib.Core.Path.{◌≡◌}
use lib.ListN.{length, take}
use Rattle.report.specs.Text.{hex_of}
use Rattle.report.proofs.TextLaws.{Laid}
use Rattle.report.proofs.text.hex.Given as goal

abbrev pub invariant-loop-byte : goal.invariant-loop-byte
invariant-loop-byte l = (length l.out ≡ length l.initial.out) × Laid l.initial.out l.at (hex_of (take l.byte-index l.bytes)) l.out l.next

use Rattle.std.proofs.Common.{◌≡◌, drop}
use Rattle.lines.specs.Words.{read_on}
use Rattle.lines.proofs.words.digits.Given as goal

abbrev pub invariant-loop-byte : goal.invariant-loop-byte
invariant-loop-byte l = read_on l.base 0 l.text ≡ read_on l.base l.n (drop l.byte-index l.text)

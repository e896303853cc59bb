use Rattle.std.proofs.Common.{◌≤◌, length}
use Rattle.lines.proofs.reader.Reader.next_line.Given as goal

abbrev pub invariant-loop : goal.invariant-loop
invariant-loop l = l.input.kept ≤ length l.line

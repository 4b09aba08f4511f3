use Rattle.std.proofs.Common.{length, ◌≤◌}
use Rattle.fort_cuts.proofs.cuts.byte_by_byte.Given as goal

abbrev pub invariant-loop-i : goal.invariant-loop-i
invariant-loop-i l = length l.reader.bytes ≤ l.i

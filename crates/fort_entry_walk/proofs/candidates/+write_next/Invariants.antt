use Rattle.std.proofs.Common.{length}
use Rattle.fort_entry_walk.proofs.candidates.+write_next.Given as goal

abbrev pub decreases-write_next : goal.decreases-write_next
decreases-write_next l = length l.digits.now

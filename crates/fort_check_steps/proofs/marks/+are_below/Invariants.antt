use Rattle.std.proofs.Common.{length}
use Rattle.fort_check_steps.proofs.marks.+are_below.Given as goal

abbrev pub decreases-are_below : goal.decreases-are_below
decreases-are_below l = length l.kids.now

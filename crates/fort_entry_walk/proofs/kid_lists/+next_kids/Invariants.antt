use Rattle.std.proofs.Common.{length}
use Rattle.fort_entry_walk.proofs.kid_lists.+next_kids.Given as goal

abbrev pub decreases-next_kids : goal.decreases-next_kids
decreases-next_kids l = length l.wants.now

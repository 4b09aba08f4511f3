use Rattle.std.proofs.Common.{length}
use Rattle.fort_entry_walk.proofs.kid_lists.+is_wanted.Given as goal

abbrev pub decreases-is_wanted : goal.decreases-is_wanted
decreases-is_wanted l = length l.wants.now

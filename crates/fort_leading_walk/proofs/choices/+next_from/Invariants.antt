use Rattle.std.proofs.Common.{length}
use Rattle.fort_leading_walk.proofs.choices.+next_from.Given as goal

abbrev pub decreases-next_from : goal.decreases-next_from
decreases-next_from g l = length l.indices.now

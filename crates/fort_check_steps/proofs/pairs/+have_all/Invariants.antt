use Rattle.std.proofs.Common.{length}
use Rattle.fort_check_steps.proofs.pairs.+have_all.Given as goal

abbrev pub decreases-have_all : goal.decreases-have_all
decreases-have_all l = length l.ps.now

use Rattle.std.proofs.Common.{length}
use Rattle.fort_check_steps.proofs.state_labels.+are_same_states.Given as goal

abbrev pub decreases-are_same_states : goal.decreases-are_same_states
decreases-are_same_states l = length l.first.now

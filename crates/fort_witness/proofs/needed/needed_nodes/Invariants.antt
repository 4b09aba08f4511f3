use Rattle.fort_witness.specs.Visiting.{work_ahead, IsVisiting}
use Rattle.fort_witness.proofs.needed.needed_nodes.Given as goal

abbrev pub invariant-visits : goal.invariant-visits
invariant-visits l = IsVisiting l.dag l.taken l.visits.items

abbrev pub decreases-visits : goal.decreases-visits
decreases-visits l = work_ahead l.dag l.visits.items

use Rattle.fort_entry_walk.proofs.CandidateLaws.{flat_left_out}
use Rattle.fort_entry_walk.proofs.candidates.skip_flat.Goals as goal

pub returns-then-range-eq1-clause-skips : goal.returns-then-range-eq1-clause-skips
returns-then-range-eq1-clause-skips c sig n flat = rw c.max.ensures (flat_left_out sig c.args.range n c.args.flat c.args.from flat c.if-range-eq1.true)

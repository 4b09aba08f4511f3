use Rattle.std.proofs.Common.{take}
use Rattle.fort_context_closure.specs.ClosedAtoms.{numbers_of}
use Rattle.fort_context_closure.specs.ReachRows.{IsReach}
use Rattle.fort_context_closure.proofs.reach.reach_of.Given as goal

abbrev pub invariant-loop-entry : goal.invariant-loop-entry
invariant-loop-entry l = IsReach l.lefts l.rights (numbers_of (take l.entry-index l.entries)) l.reach

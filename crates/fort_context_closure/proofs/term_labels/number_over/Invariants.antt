use Rattle.std.proofs.Common.{take}
use Rattle.fort_context_closure.specs.TermNodes.{AreNoNode, numbers_told}
use Rattle.fort_context_closure.proofs.term_labels.number_over.Given as goal

abbrev pub invariant-loop-node : goal.invariant-loop-node
invariant-loop-node l = AreNoNode (take l.node-index l.nodes) l.sym.0 (numbers_told l.rows.labels l.row.kids)

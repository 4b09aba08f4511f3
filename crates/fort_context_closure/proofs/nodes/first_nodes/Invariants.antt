use Rattle.std.proofs.Common.{map}
use Rattle.fort_context_closure.proofs.NodeLaws.{AreFirstNodes}
use Rattle.fort_context_closure.proofs.nodes.first_nodes.Given as goal

abbrev pub invariant-loop-place : goal.invariant-loop-place
invariant-loop-place l = AreFirstNodes (map (λ t. t.now) l.listed) l.place l.nodes.items

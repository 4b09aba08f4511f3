use Rattle.std.proofs.Common.{◌≡◌, map, take}
use Rattle.fort_steps.specs.OpenView.{as_node}
use Rattle.fort_open_checker.proofs.dag.nodes_dag.Given as goal

abbrev pub invariant-loop-node : goal.invariant-loop-node
invariant-loop-node l = l.dag ≡ map as_node (take l.node-index l.nodes)

use Rattle.std.proofs.Common.{ℕ, map, take}
use Rattle.fort_steps.specs.OpenView.{as_node}
use Rattle.fort_open_checker.specs.NodeStates.{AreNodeStates, HasNodeRoom}
use Rattle.fort_open_checker.proofs.found.check_nodes.Given as goal

abbrev pub invariant-loop-k : goal.invariant-loop-k
invariant-loop-k g l = record {
  states : AreNodeStates (g.T.Table.table l.table) (map as_node (take l.k l.certificate.nodes.items)) l.room.presences.items l.room.states.items;
  room : (n : ℕ) → HasNodeRoom n l.initial.room → HasNodeRoom n l.room;
}

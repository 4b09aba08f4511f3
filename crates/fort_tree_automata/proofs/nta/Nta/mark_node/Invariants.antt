use Rattle.std.proofs.Common.{◌≡◌, drop, map}
use Rattle.std.specs.Prelude.{vec_items}
use Rattle.fort_tree_automata.specs.NtaView.{as_move}
use Rattle.fort_tree_automata.specs.Marks.{with_node}
use Rattle.fort_tree_automata.proofs.nta.Nta.mark_node.Given as goal

abbrev pub invariant-loop-step : goal.invariant-loop-step
invariant-loop-step l =
    with_node l.sym.0 (map vec_items l.rows) (map as_move (drop l.step-index l.step-items)) l.flags.items
    ≡ with_node l.sym.0 (map vec_items l.rows) (map as_move l.step-items) l.initial.flags.items

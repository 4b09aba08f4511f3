use Rattle.std.proofs.Common.{◌≡◌, drop, map}
use Rattle.fort_tree_automata.specs.NtaView.{as_move}
use Rattle.fort_tree_automata.specs.Marks.{with_moves}
use Rattle.fort_tree_automata.proofs.flags.mark_by_moves.Given as goal

abbrev pub invariant-loop-step : goal.invariant-loop-step
invariant-loop-step l =
    with_moves (map as_move (drop l.step-index l.moves)) l.flags.items ≡ with_moves (map as_move l.moves) l.initial.flags.items

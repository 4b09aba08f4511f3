use Rattle.std.proofs.Common.{◌≡◌, map, take}
use Rattle.fort_tree_automata.specs.NtaView.{as_move}
use Rattle.fort_tree_automata.proofs.copies.copied_moves.Given as goal

abbrev pub invariant-loop-step : goal.invariant-loop-step
invariant-loop-step l = map as_move l.copies.items ≡ map as_move (take l.step-index l.moves)

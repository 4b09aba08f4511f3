use Rattle.std.proofs.Common.{◌≡◌, ◌++◌, map, take}
use Rattle.fort_tree_automata.specs.NtaView.{as_move}
use Rattle.fort_transducers.specs.Unions.{shifted_move}
use Rattle.fort_transducers.proofs.beside.push_moves.Given as goal

abbrev pub invariant-loop-step : goal.invariant-loop-step
invariant-loop-step l =
    map as_move l.joined.items ≡ map as_move l.initial.joined.items ++ map (shifted_move l.by) (map as_move (take l.step-index l.moves))

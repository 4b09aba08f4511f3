use Rattle.std.proofs.Common.{◌≡◌, ◌++◌, map, take}
use Rattle.fort_tree_automata.specs.NtaView.{as_move}
use Rattle.fort_relation_exprs.specs.Sides.{any_moves, move_in, numbered_move}
use Rattle.fort_relation_exprs.proofs.side.side_moves.Given as goal

abbrev pub invariant-loop-step : goal.invariant-loop-step
invariant-loop-step l = map move_in l.moves.items ≡ any_moves l.nta.any ++ map numbered_move (map as_move (take l.step-index l.nta.moves.items))

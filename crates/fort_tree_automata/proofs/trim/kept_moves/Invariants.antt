use Rattle.std.proofs.Common.{◌≡◌, map, take}
use Rattle.std.specs.Prelude.{filter}
use Rattle.fort_tree_automata.specs.NtaView.{as_move}
use Rattle.fort_tree_automata.specs.Marks.{all_marked}
use Rattle.fort_tree_automata.proofs.trim.kept_moves.Given as goal

abbrev pub invariant-loop-step : goal.invariant-loop-step
invariant-loop-step l = map as_move l.kept.items ≡ filter (λ m. all_marked l.flags m.1) (map as_move (take l.step-index l.moves))

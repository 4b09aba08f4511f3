use Rattle.std.proofs.Common.{map, take}
use Rattle.fort_terms.specs.PatternView.{as_pattern}
use Rattle.fort_tree_automata.specs.NtaView.{as_move}
use Rattle.fort_tree_automata.specs.PatternMoves.{AreMovesFor}
use Rattle.fort_tree_automata.proofs.of_patterns.pattern_automaton.Given as goal

abbrev pub invariant-loop-state : goal.invariant-loop-state
invariant-loop-state l = AreMovesFor (map as_pattern l.patterns) 0 (map as_pattern (take l.state l.patterns)) (map as_move l.moves.items)

use Rattle.std.proofs.Common.{map, take}
use Rattle.fort_terms.specs.PatternView.{as_pattern, as_patterns}
use Rattle.fort_tree_automata.specs.PatternMoves.{AllStandAt}
use Rattle.fort_tree_automata.proofs.of_patterns.places.Given as goal

abbrev pub invariant-loop-arg : goal.invariant-loop-arg
invariant-loop-arg l = AllStandAt (map as_pattern l.patterns) l.states.items (as_patterns (take l.arg-index l.args))

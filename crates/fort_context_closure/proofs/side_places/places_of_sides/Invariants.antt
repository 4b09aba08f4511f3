use Rattle.std.proofs.Common.{map, take}
use Rattle.fort_terms.specs.PatternView.{as_pair, as_pattern}
use Rattle.fort_context_closure.specs.SidePlaces.{AreSidesOf}
use Rattle.fort_context_closure.proofs.side_places.places_of_sides.Given as goal

abbrev pub invariant-loop-rule : goal.invariant-loop-rule
invariant-loop-rule l = AreSidesOf (map as_pattern l.lefts) (map as_pair (take l.rule-index l.rules)) l.places.items

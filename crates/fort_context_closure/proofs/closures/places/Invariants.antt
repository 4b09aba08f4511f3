use Rattle.std.proofs.Common.{map, take}
use Rattle.fort_terms.specs.PatternView.{as_pair, as_pattern}
use Rattle.fort_transducers.specs.RootSteps.{ArePlaces}
use Rattle.fort_context_closure.proofs.closures.places.Given as goal

abbrev pub invariant-loop-rule : goal.invariant-loop-rule
invariant-loop-rule l = ArePlaces (map as_pattern l.lefts) (map as_pattern l.rights) (map as_pair (take l.rule-index l.rules)) l.pairs.items

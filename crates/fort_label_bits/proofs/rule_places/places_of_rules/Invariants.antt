use Rattle.std.proofs.Common.{map, take}
use Rattle.fort_terms.specs.PatternView.{as_pair, as_pattern}
use Rattle.fort_label_bits.specs.RulePlaces.{ArePlacesOf}
use Rattle.fort_label_bits.proofs.rule_places.places_of_rules.Given as goal

abbrev pub invariant-loop-rule : goal.invariant-loop-rule
invariant-loop-rule l = ArePlacesOf (map as_pattern l.lefts) (map as_pattern l.rights) (map as_pair (take l.rule-index l.rules)) l.places.items

use Rattle.std.proofs.Common.{map, take}
use Rattle.fort_terms.specs.PatternView.{as_pattern, as_patterns}
use Rattle.fort_alike.specs.PatternNumbers.{AreAt}
use Rattle.fort_label_bits.proofs.numbered.places_of.Given as goal

abbrev pub invariant-loop-arg : goal.invariant-loop-arg
invariant-loop-arg l = AreAt (map as_pattern l.patterns) l.places.items (as_patterns (take l.arg-index l.args))

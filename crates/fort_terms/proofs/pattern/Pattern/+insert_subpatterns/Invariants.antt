use Rattle.std.proofs.Common.{map, take}
use Rattle.fort_theory.specs.PatternOrder.{all_subpatterns}
use Rattle.fort_terms.specs.PatternView.{as_pattern, as_patterns}
use Rattle.fort_terms.specs.Subpatterns.{HasMore}
use Rattle.fort_terms.proofs.pattern.Pattern.+insert_subpatterns.Given as goal

abbrev pub invariant-loop-arg : goal.invariant-loop-arg
invariant-loop-arg l =
    HasMore (all_subpatterns (as_patterns (take l.arg-index l.arg-items))) (map as_pattern l.initial.found.keys) (map as_pattern l.found.keys)

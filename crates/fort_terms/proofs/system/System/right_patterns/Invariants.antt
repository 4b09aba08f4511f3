use Rattle.std.proofs.Common.{[], map, take}
use Rattle.std.specs.List.{flat_map}
use Rattle.fort_theory.specs.PatternOrder.{subpatterns}
use Rattle.fort_terms.specs.PatternView.{as_pattern}
use Rattle.fort_terms.specs.Subpatterns.{HasMore}
use Rattle.fort_terms.proofs.system.System.right_patterns.Given as goal

abbrev pub invariant-loop-rule : goal.invariant-loop-rule
invariant-loop-rule l =
    HasMore (flat_map (λ rule. subpatterns (as_pattern rule.1)) (take l.rule-index l.rule-items)) [] (map as_pattern l.found.keys)

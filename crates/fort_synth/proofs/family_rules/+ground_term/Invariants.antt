use Rattle.std.proofs.Common.{◌≡◌, map, take, Some}
use Rattle.fort_terms.specs.PatternView.{as_pattern, node_count}
use Rattle.fort_synth.specs.FamilyLists.{ground_term}
use Rattle.fort_synth.proofs.family_rules.+ground_term.Given as goal

abbrev pub decreases-ground_term : goal.decreases-ground_term
decreases-ground_term l = node_count (as_pattern l.pattern.now)

abbrev pub invariant-loop-arg : goal.invariant-loop-arg
invariant-loop-arg l = map (λ p. ground_term (as_pattern p)) (take l.arg-index l.arg-items) ≡ map (λ t. Some t) l.kids.items

use Rattle.std.proofs.Common.{◌≡◌, ◌++◌, map, take}
use Rattle.fort_terms.specs.PatternView.{as_pattern}
use Rattle.fort_synth.specs.FamilyView.{as_family_rule}
use Rattle.fort_synth.proofs.family_rules.push_rules.Given as goal

abbrev pub invariant-loop-term : goal.invariant-loop-term
invariant-loop-term l =
    map as_family_rule l.rules.items ≡ map as_family_rule l.initial.rules.items ++ map (λ t. (as_pattern l.left, t)) (take l.term-index l.terms)

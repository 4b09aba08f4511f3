use Rattle.std.proofs.Common.{◌≡◌, ◌≤◌, ◌∷◌, map, length}
use Rattle.fort_theory.specs.Patterns.{Any}
use Rattle.fort_answers.specs.FamilyRules.{most_family_rules}
use Rattle.fort_terms.specs.PatternView.{as_pattern}
use Rattle.fort_synth.specs.FamilyLists.{applications_before}
use Rattle.fort_synth.proofs.family_patterns.higher_patterns.Given as goal

abbrev pub invariant-loop-number : goal.invariant-loop-number
invariant-loop-number l = record {
  are : map as_pattern l.patterns.items ≡ Any ∷ applications_before l.signature (map as_pattern l.items) l.number;
  few : length l.patterns.items ≤ most_family_rules;
}

use Rattle.std.proofs.Common.{◌≡◌, ◌≤◌, map, length}
use Rattle.fort_answers.specs.FamilyRules.{most_family_rules}
use Rattle.fort_terms.specs.PatternView.{as_pattern}
use Rattle.fort_synth.specs.FamilyLists.{low_patterns}
use Rattle.fort_synth.proofs.family_patterns.patterns_up_to.Given as goal

abbrev pub invariant-loop : goal.invariant-loop
invariant-loop l = record {
  are : map as_pattern l.patterns.items ≡ low_patterns l.signature l.counter;
  few : length l.patterns.items ≤ most_family_rules;
}

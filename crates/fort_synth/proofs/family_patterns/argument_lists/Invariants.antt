use Rattle.std.proofs.Common.{◌≡◌, ◌≤◌, map, length}
use Rattle.fort_answers.specs.FamilyRules.{most_family_rules}
use Rattle.fort_terms.specs.PatternView.{as_pattern}
use Rattle.fort_synth.specs.FamilyLists.{argument_lists}
use Rattle.fort_synth.proofs.family_patterns.argument_lists.Given as goal

abbrev pub invariant-loop : goal.invariant-loop
invariant-loop l = record {
  are : l.lists.items ≡ argument_lists l.counter (map as_pattern l.items);
  few : length l.lists.items ≤ most_family_rules;
}

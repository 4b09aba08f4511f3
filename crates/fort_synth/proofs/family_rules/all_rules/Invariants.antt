use Rattle.std.proofs.Common.{◌≡◌, map, take}
use Rattle.fort_terms.specs.PatternView.{as_pattern}
use Rattle.fort_synth.specs.FamilyLists.{all_rules}
use Rattle.fort_synth.specs.FamilyView.{as_family_rule}
use Rattle.fort_synth.proofs.family_rules.all_rules.Given as goal

abbrev pub invariant-loop-pattern : goal.invariant-loop-pattern
invariant-loop-pattern l = map as_family_rule l.rules.items ≡ all_rules (map as_pattern (take l.pattern-index l.patterns)) l.terms

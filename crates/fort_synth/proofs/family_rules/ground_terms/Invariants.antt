use Rattle.std.proofs.Common.{◌≡◌, map, take}
use Rattle.fort_terms.specs.PatternView.{as_pattern}
use Rattle.fort_synth.specs.FamilyLists.{ground_terms}
use Rattle.fort_synth.proofs.family_rules.ground_terms.Given as goal

abbrev pub invariant-loop-pattern : goal.invariant-loop-pattern
invariant-loop-pattern l = l.terms.items ≡ ground_terms (map as_pattern (take l.pattern-index l.patterns))

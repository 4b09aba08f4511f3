use Rattle.std.proofs.Common.{◌≡◌, map, take}
use Rattle.fort_terms.specs.PatternView.{as_pattern}
use Rattle.fort_synth.specs.FamilyLists.{longer_lists}
use Rattle.fort_synth.proofs.family_patterns.longer_lists.Given as goal

abbrev pub invariant-loop-first : goal.invariant-loop-first
invariant-loop-first l = l.longer.items ≡ longer_lists (map as_pattern (take l.first-index l.items)) l.rests

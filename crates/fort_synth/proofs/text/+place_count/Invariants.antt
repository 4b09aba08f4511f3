use Rattle.std.proofs.Common.{◌≡◌, take}
use Rattle.fort_terms.specs.PatternView.{as_pattern, as_patterns, node_count}
use Rattle.fort_answers.specs.FamilySystems.{any_counts}
use Rattle.fort_synth.proofs.text.+place_count.Given as goal

abbrev pub decreases-place_count : goal.decreases-place_count
decreases-place_count l = node_count (as_pattern l.pattern.now)

abbrev pub invariant-loop-arg : goal.invariant-loop-arg
invariant-loop-arg l = l.count ≡ any_counts (as_patterns (take l.arg-index l.arg-items))

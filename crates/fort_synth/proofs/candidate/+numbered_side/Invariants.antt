use Rattle.std.proofs.Common.{◌≡◌, ◌+◌, take}
use Rattle.fort_answers.specs.FamilySystems.{any_counts, sides_from}
use Rattle.fort_terms.specs.PatternView.{as_pattern, as_patterns, node_count}
use Rattle.fort_terms.specs.SideView.{as_sides}
use Rattle.fort_synth.proofs.candidate.+numbered_side.Given as goal

abbrev pub decreases-numbered_side : goal.decreases-numbered_side
decreases-numbered_side l = node_count (as_pattern l.pattern.now)

abbrev pub invariant-loop-arg : goal.invariant-loop-arg
invariant-loop-arg l = record {
  made : as_sides l.sides.items ≡ sides_from l.fn.next (as_patterns (take l.arg-index l.arg-items));
  count : l.next ≡ l.fn.next + any_counts (as_patterns (take l.arg-index l.arg-items));
}

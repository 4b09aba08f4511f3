use Rattle.std.proofs.Common.{◌≡◌, ◌+◌, ◌++◌, take}
use Rattle.fort_terms.specs.PatternView.{as_pattern, as_patterns, node_count}
use Rattle.fort_answers.specs.FamilySystems.{any_counts, sides_from}
use Rattle.fort_answers.specs.RuleText.{sides_text}
use Rattle.fort_synth.proofs.text.+push_pattern.Given as goal

abbrev pub decreases-push_pattern : goal.decreases-push_pattern
decreases-push_pattern l = node_count (as_pattern l.pattern.now)

-- the arguments before this one are written
abbrev pub invariant-loop-arg : goal.invariant-loop-arg
invariant-loop-arg l = record {
  written : l.text.items ≡ l.initial.text.items ++ sides_text l.signature (sides_from l.initial.next (as_patterns (take l.arg-index l.args)));
  counted : l.next ≡ l.initial.next + any_counts (as_patterns (take l.arg-index l.args));
}

use Rattle.std.proofs.Common.{map}
use Rattle.fort_terms.specs.PatternView.{as_pattern}
use Rattle.fort_terms.specs.Subpatterns.{HasMore}
use Rattle.fort_context_closure.proofs.rule_list.insert_all.Given as goal

abbrev pub invariant-loop-pattern : goal.invariant-loop-pattern
invariant-loop-pattern l = HasMore (map as_pattern l.yielded) (map as_pattern l.initial.found.keys) (map as_pattern l.found.keys)

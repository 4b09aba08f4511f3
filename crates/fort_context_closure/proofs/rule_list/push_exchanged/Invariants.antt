use Rattle.std.proofs.Common.{◌≡◌, ◌++◌, map, take}
use Rattle.fort_terms.specs.BothWays.{exchanged}
use Rattle.fort_terms.specs.PatternView.{as_pair}
use Rattle.fort_context_closure.proofs.rule_list.push_exchanged.Given as goal

abbrev pub invariant-loop-left : goal.invariant-loop-left
invariant-loop-left l = map as_pair l.all.items ≡ map as_pair l.initial.all.items ++ map exchanged (map as_pair (take l.left-index l.rules))

use Rattle.std.proofs.Common.{◌≡◌}
use Rattle.fort_context_closure.proofs.rule_list.in_order.Given as goal

abbrev pub invariant-loop-pattern : goal.invariant-loop-pattern
invariant-loop-pattern l = l.patterns.items ≡ l.yielded

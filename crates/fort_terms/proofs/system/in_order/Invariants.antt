use Rattle.std.proofs.Common.{◌≡◌}
use Rattle.fort_terms.proofs.system.in_order.Given as goal

abbrev pub invariant-loop-pattern : goal.invariant-loop-pattern
invariant-loop-pattern l = l.patterns.items ≡ l.yielded

use Rattle.std.proofs.Common.{◌≡◌}
use Rattle.fort_theory.specs.Sides.{empty_lists}
use Rattle.fort_terms.specs.PatternView.{as_rules}
use Rattle.fort_terms.proofs.system.System.new.Given as goal

abbrev pub invariant-loop-i : goal.invariant-loop-i
invariant-loop-i l = as_rules l.rules.items ≡ empty_lists l.i

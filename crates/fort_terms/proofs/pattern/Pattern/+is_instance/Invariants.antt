use Rattle.std.proofs.Common.{◌≡◌, ◌↔◌, length}
use Rattle.fort_theory.specs.Trees.{trees}
use Rattle.fort_theory.specs.Patterns.{AreInstances}
use Rattle.fort_terms.specs.PatternView.{as_patterns}
use Rattle.fort_terms.proofs.pattern.Pattern.+is_instance.Given as goal

abbrev pub decreases-is_instance : goal.decreases-is_instance
decreases-is_instance l = goal.size-is_instance l

-- the arguments that are left decide
abbrev pub invariant-loop-arg : goal.invariant-loop-arg
invariant-loop-arg l =
    let args = l.arg-iterator.a.rest.now in
    let kids = l.arg-iterator.b.rest.now in
    (length args ≡ length kids)
    × (AreInstances (as_patterns l.initial.arg-iterator.a.rest.now) (trees l.initial.arg-iterator.b.rest.now) ↔ AreInstances (as_patterns args) (trees kids))

use Rattle.std.proofs.Common.{◌≡◌, ◌++◌, drop}
use Rattle.fort_theory.specs.Sides.{variables_among}
use Rattle.fort_terms.specs.SideView.{as_sides}
use Rattle.fort_terms.proofs.side.Side.+push_variables.Given as goal

abbrev pub invariant-loop-arg : goal.invariant-loop-arg
invariant-loop-arg l =
    l.found.items ++ variables_among (as_sides (drop l.arg-index l.arg-items)) ≡ l.initial.found.items ++ variables_among (as_sides l.arg-items)

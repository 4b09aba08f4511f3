use Rattle.std.proofs.Common.{◌≡◌, ◌++◌, map}
use Rattle.fort_certificate_theory.specs.Dues.{closures_due}
use Rattle.fort_outline.specs.Roots.{cores_of}
use Rattle.fort_dues.specs.DueView.{as_due}
use Rattle.fort_dues.proofs.dues.push_closures.Given as goal

abbrev pub invariant-loop-i : goal.invariant-loop-i
invariant-loop-i l = map as_due l.dues.items ≡ map as_due l.initial.dues.items ++ closures_due (cores_of l.roots) l.i 1

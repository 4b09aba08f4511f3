use Rattle.std.proofs.Common.{◌≡◌, ◌++◌, false, map, take, get_or}
use Rattle.fort_certificate_theory.specs.Dues.{parts_due}
use Rattle.fort_outline.specs.Outlines.{parts_in}
use Rattle.fort_dues.specs.DueView.{as_due}
use Rattle.fort_dues.proofs.dues.push_parts.Given as goal

abbrev pub invariant-loop-k : goal.invariant-loop-k
invariant-loop-k l = map as_due l.dues.items ≡ map as_due l.initial.dues.items ++ parts_due (λ k. get_or l.merges k false) 0 (take l.k (parts_in l.outline))

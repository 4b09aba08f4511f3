use Rattle.std.proofs.Common.{◌≡◌, map}
use Rattle.std.specs.Prelude.{vec_items}
use Rattle.fort_theory.specs.Sides.{empty_lists}
use Rattle.fort_gtt_closure.proofs.groups.Groups.new.Given as goal

abbrev pub invariant-loop-i : goal.invariant-loop-i
invariant-loop-i l = map vec_items l.groups.items ≡ empty_lists l.i

use Rattle.std.proofs.Common.{◌≡◌, [], replicate}
use Rattle.fort_infinity.specs.StateListsView.{lists_of}
use Rattle.fort_infinity.proofs.lists.StateLists.new.Given as goal

abbrev pub invariant-loop-i : goal.invariant-loop-i
invariant-loop-i l = lists_of l.lists.items ≡ replicate l.i []

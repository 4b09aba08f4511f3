use Rattle.std.proofs.Common.{◌≡◌, ◌++◌, take}
use Rattle.fort_class_targets.proofs.view_numbers.push_numbers.Given as goal

abbrev pub invariant-loop-view : goal.invariant-loop-view
invariant-loop-view l = l.numbers.items ≡ l.initial.numbers.items ++ take l.view-index l.views

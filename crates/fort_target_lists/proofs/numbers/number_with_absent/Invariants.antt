use Rattle.std.proofs.Common.{◌≡◌, take, None}
use Rattle.std.specs.List.{insert}
use Rattle.fort_target_lists.specs.Places.{number_of}
use Rattle.fort_target_lists.proofs.numbers.number_with_absent.Given as goal

abbrev pub invariant-loop-k : goal.invariant-loop-k
invariant-loop-k l = l.number ≡ number_of l.base (take l.k (insert l.symbol l.column None))

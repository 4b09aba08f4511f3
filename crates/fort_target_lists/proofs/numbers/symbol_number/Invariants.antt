use Rattle.std.proofs.Common.{◌≡◌, take}
use Rattle.fort_target_lists.specs.Places.{number_of}
use Rattle.fort_target_lists.proofs.numbers.symbol_number.Given as goal

abbrev pub invariant-loop-k : goal.invariant-loop-k
invariant-loop-k l = l.number ≡ number_of l.base (take l.k l.symbol)

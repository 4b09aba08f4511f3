use Rattle.std.proofs.Common.{◌≡◌, ℕ, List, ◌++◌}
use Rattle.fort_logic.specs.FreeNames.{once}
use Rattle.fort_formulas.proofs.names.push_all_new.Given as goal

abbrev pub invariant-loop-name : goal.invariant-loop-name
invariant-loop-name l = (xs : List (List ℕ)) → l.initial.names.items ≡ once xs → l.names.items ≡ once (xs ++ l.yielded)

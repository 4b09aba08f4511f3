use Rattle.std.proofs.Common.{◌≡◌, ℕ, ◌<◌, false}
use Rattle.fort_check_steps.specs.PairSteps.{open_test}
use Rattle.fort_check_steps.proofs.closure.open_in_row.Given as goal

abbrev pub invariant-lefts : goal.invariant-lefts
invariant-lefts l = (j : ℕ) → j < l.q → open_test l.rules l.listed l.p j ≡ false

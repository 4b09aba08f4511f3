use Rattle.std.proofs.Common.{ℕ, ◌+◌, ◌<◌, ◌≤◌}
use Rattle.fort_tables.specs.Tuples.{arity}
use Rattle.fort_entry_walk.proofs.candidates.greatest_arity.Given as goal

abbrev pub invariant-loop-digit : goal.invariant-loop-digit
invariant-loop-digit l = (g : ℕ) → g + 1 < l.digit → arity l.sig g ≤ l.greatest

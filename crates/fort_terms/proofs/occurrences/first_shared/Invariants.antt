use Rattle.std.proofs.Common.{ℕ, Contains, take}
use Rattle.fort_terms.proofs.occurrences.first_shared.Given as goal

abbrev pub invariant-loop-variable : goal.invariant-loop-variable
invariant-loop-variable l = (v : ℕ) → Contains (take l.variable-index l.left) v → Contains l.right v → ⊥

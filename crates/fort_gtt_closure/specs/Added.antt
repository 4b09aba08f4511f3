-- To believe: which silent moves a list of entries adds for the pairs of a transducer.
use Rattle.std.specs.Prelude.{◌↔◌, ℕ, List, Contains}
use Rattle.fort_gtt_closure.specs.declared.entry.Entry.{Entry}
use Rattle.fort_gtt_closure.specs.Reasons.{IsListed}

-- for a pair of a and b, from a to each state that b reaches
abbrev pub AreOnward : List Entry → List (ℕ × ℕ) → List (ℕ × ℕ) → Type 0
AreOnward es pairs moves = (a q : ℕ) → Contains moves (a, q) ↔ ((b : ℕ) × Contains pairs (a, b) × IsListed es b q)

-- for a pair of a and b, from b to each state that reaches a
abbrev pub AreBackward : List Entry → List (ℕ × ℕ) → List (ℕ × ℕ) → Type 0
AreBackward es pairs moves = (b p : ℕ) → Contains moves (b, p) ↔ ((a : ℕ) × Contains pairs (a, b) × IsListed es p a)

-- Inside: which nodes are accepted.
use Rattle.std.specs.Prelude.{◌≡◌, ℕ, ◌<◌, true, List, [], length, get_or}
use Rattle.fort_tables.specs.Tuples.{Tuple}
use Rattle.fort_tables.specs.Tables.{Table}
use Rattle.fort_tables.specs.OperationTruth.{accepts}

-- the numbers of all tuples that are accepted, ascending
pub record AreAccepted (t : Table) (ts : List Tuple) (numbers : List ℕ) : Type 0 where
  pub rise : (i j : ℕ) → i < j → j < length numbers → get_or numbers i 0 < get_or numbers j 0
  pub within : (j : ℕ) → j < length numbers → get_or numbers j 0 < length ts
  pub accepted : (j : ℕ) → j < length numbers → accepts t (get_or ts (get_or numbers j 0) []) ≡ true
  pub all : (i : ℕ) → i < length ts → accepts t (get_or ts i []) ≡ true
      → (k : ℕ) × (k < length numbers) × (get_or numbers k 0 ≡ i)

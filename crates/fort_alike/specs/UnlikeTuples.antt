-- To believe: a part is over a cap where there are cap + 1 optional tuples, no two of them alike.
use Rattle.std.specs.Prelude.{◌≡◌, ℕ, ◌+◌, ◌<◌, List, [], length, get_or}
use Rattle.fort_theory.specs.Signatures.{Signature}
use Rattle.fort_tables.specs.Tuples.{Tuple}
use Rattle.fort_tables.specs.Entries.{AreTuples}

pub record AreUnlike (sig : Signature) (columns : ℕ) (Like : Tuple → Tuple → Type 0) (count : ℕ) (ts : List Tuple) : Type 0 where
  pub many : length ts ≡ count
  pub tuples : AreTuples sig columns ts
  pub unlike : (i j : ℕ) → i < length ts → j < length ts → Like (get_or ts i []) (get_or ts j []) → i ≡ j

abbrev pub IsOver : Signature → ℕ → (Tuple → Tuple → Type 0) → ℕ → Type 0
IsOver sig columns Like cap = (ts : List Tuple) × AreUnlike sig columns Like (cap + 1) ts

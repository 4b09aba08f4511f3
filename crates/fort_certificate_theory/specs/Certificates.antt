-- To believe: what a certificate is made of.
use Rattle.std.specs.Prelude.{ℕ, Bool, List}
use Rattle.fort_alike.specs.ListedClosures.{Which, Pair}
use Rattle.fort_tables.specs.Counts.{Count}

-- the pairs of a closure of the system of an index; the targets of a part's entries; the classes of the states of a part's table; the counts
-- of the pure states of a part's body; the value of a part without columns
pub data Step : Type 0 where
  Closure : Which → (index : ℕ) → List Pair → Step
  Part : (part : ℕ) → (targets : List ℕ) → Step
  Merge : (part : ℕ) → (classes : List ℕ) → Step
  Counts : (part : ℕ) → List Count → Step
  Value : (part : ℕ) → Bool → Step

-- the number of its first form, its verdict, and its steps
pub record Certificate : Type 0 where
  pub first : ℕ
  pub verdict : Bool
  pub steps : List Step

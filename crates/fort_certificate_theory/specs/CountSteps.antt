-- To believe: when the marks of a table's pure states are right, and at which place they fail, and why.
use Rattle.std.specs.Prelude.{◌≡◌, ℕ, ◌<◌, ◌≤◌, List, length, get_or}
use Rattle.fort_tables.specs.Tables.{Table}
use Rattle.fort_tables.specs.Counts as counts
use Rattle.fort_tables.specs.Counts.{Finite, Infinite, IsFiniteBelow, KeepsInfinite, KeepsRule, count_at}
use Rattle.fort_tables.specs.PureStates.{IsPureChild}
use Rattle.fort_certificate_theory.specs.Outcomes.{StepOutcome, Fine, Fails, Count, Rank, Cycle}

-- as many marks as pure states, of which the first n hold by their rules
pub record AreRightMarks (body : Table) (c : ℕ) (states : List ℕ) (marks : List counts.Count) (n : ℕ) : Type 0 where
  pub count : length marks ≡ length states
  pub within : n ≤ length marks
  pub right : (i : ℕ) → i < n → KeepsRule body c (count_at states marks) (get_or states i 0) (get_or marks i (Finite 0))

pub data IsCountOutcome (body : Table) (c : ℕ) (states : List ℕ) (marks : List counts.Count) : StepOutcome → Type 0 where
  IsRight : AreRightMarks body c states marks (length marks) → IsCountOutcome body c states marks Fine
  NotAsMany : (length marks ≡ length states → ⊥) → IsCountOutcome body c states marks (Fails 0 Count)
  -- some child isn't marked finite with a number below r
  NotRanked : (i r k : ℕ) → AreRightMarks body c states marks i → i < length marks → get_or marks i (Finite 0) ≡ Finite r
      → IsPureChild body c (get_or states i 0) k → (IsFiniteBelow (count_at states marks) r k → ⊥)
      → IsCountOutcome body c states marks (Fails i Rank)
  -- p is no child, or isn't marked infinite
  NotFed : (i p : ℕ) → AreRightMarks body c states marks i → i < length marks → get_or marks i (Finite 0) ≡ Infinite p
      → (KeepsInfinite body c (count_at states marks) (get_or states i 0) p → ⊥) → IsCountOutcome body c states marks (Fails i Cycle)

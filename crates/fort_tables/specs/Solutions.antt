-- To believe: the solutions of a relation up to a height, and the first of them in the order of tuples.
use Rattle.std.specs.Prelude.{ℕ, suc, ◌≤◌, Bool, List}
use Rattle.fort_theory.specs.Signatures.{Signature}
use Rattle.fort_tables.specs.Tuples.{Tuple, IsTuple, IsFull, level}
use Rattle.fort_tables.specs.OperationTruth.{TupleRelation}
use Rattle.fort_tables.specs.TupleOrder.{TupleBefore}
use Rattle.fort_tables.specs.FirstInOrder.{AreFirstInOrder}

-- the relation holds of this tuple of terms, none of which is higher; the level of a tuple is one more than the greatest height in it
pub record IsSolution (sig : Signature) (columns : ℕ) (R : TupleRelation) (height : ℕ) (t : Tuple) : Type 0 where
  pub tuple : IsTuple sig columns t
  pub full : IsFull t
  pub holds : R t
  pub low : level t ≤ suc height

abbrev pub AreFirstSolutions : Signature → (columns : ℕ) → TupleRelation → (height most : ℕ) → List Tuple → (more : Bool) → Type 0
AreFirstSolutions sig columns R height most ts more = AreFirstInOrder TupleBefore (IsSolution sig columns R height) most ts more

-- To believe: the least tuple of terms of which a relation holds, and so the least that a table accepts.
use Rattle.std.specs.Prelude.{◌≡◌, ℕ, true}
use Rattle.fort_theory.specs.Signatures.{Signature}
use Rattle.fort_tables.specs.Tuples.{Tuple, IsTuple, IsFull}
use Rattle.fort_tables.specs.Tables.{Table}
use Rattle.fort_tables.specs.OperationTruth.{TupleRelation, accepts}
use Rattle.fort_tables.specs.TupleOrder.{TupleBefore}

-- the relation holds of this tuple of terms, and of none that comes before it
pub record IsLeast (sig : Signature) (columns : ℕ) (R : TupleRelation) (t : Tuple) : Type 0 where
  pub tuple : IsTuple sig columns t
  pub full : IsFull t
  pub holds : R t
  pub least : (u : Tuple) → IsTuple sig columns u → IsFull u → R u → TupleBefore u t → ⊥

-- the relation holds of no tuple of terms
abbrev pub HoldsOfNone : Signature → ℕ → TupleRelation → Type 0
HoldsOfNone sig columns R = (t : Tuple) → IsTuple sig columns t → IsFull t → R t → ⊥

abbrev pub Accepted : Table → TupleRelation
Accepted table t = accepts table t ≡ true

abbrev pub IsLeastAccepted : Table → Tuple → Type 0
IsLeastAccepted table t = IsLeast table.signature table.columns (Accepted table) t

abbrev pub AcceptsNone : Table → Type 0
AcceptsNone table = HoldsOfNone table.signature table.columns (Accepted table)

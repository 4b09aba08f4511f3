-- To believe: what tables of tuples of terms say as relations: complement, conjunction, disjunction, equivalence, "some term completes the tuple", cylinder and exchange.
use Rattle.std.specs.Prelude.{◌≡◌, ◌<◌, ◌==◌, ℕ, List, Some, get_or, length, Bool, false, not, Decides, if◌then◌else◌}
use Rattle.std.specs.List.{insert}
use Rattle.fort_theory.specs.Trees.{Tree}
use Rattle.fort_theory.specs.Signatures.{Signature, IsGround}
use Rattle.fort_tables.specs.Tuples.{Tuple, IsTuple, IsFull}
use Rattle.fort_tables.specs.Tables.{Table, full_presence, state_of}
use Rattle.fort_tables.specs.Selections.{selected}
use Rattle.fort_tables.specs.Products.{Operand, OfTable, OfTruth}

-- a relation between so many terms, each tuple having a term in every column
abbrev pub TupleRelation : Type 1
TupleRelation = Tuple → Type 0

-- a test says of each tuple of terms whether the relation holds of it
abbrev pub TestsRelation : Signature → ℕ → (Tuple → Bool) → TupleRelation → Type 0
TestsRelation sig columns test R = (t : Tuple) → IsTuple sig columns t → IsFull t → Decides (test t) (R t)

-- whether the table accepts the tuple
abbrev pub accepts : Table → Tuple → Bool
accepts table t = table.accepting (state_of table t)

-- the table with each truth turned of a state whose tuples have all columns
abbrev pub complemented : Table → Table
complemented table = record {
  signature = table.signature;
  columns = table.columns;
  presences = table.presences;
  target = table.target;
  accepting = λ q. if get_or table.presences q 0 == full_presence table.columns then not (table.accepting q) else false;
}

abbrev pub Complement : TupleRelation → TupleRelation
Complement R t = R t → ⊥

-- on its own columns; for any values of the others it is the relation's cylinder
abbrev pub Cylinder : List ℕ → TupleRelation → TupleRelation
Cylinder places R t = R (selected places t)

-- whether an operand accepts a tuple of all columns
abbrev pub said_by : Operand → Tuple → Bool
said_by (OfTable table places) t = accepts table (selected places t)
said_by (OfTruth b) t = b

-- some term in column c completes the tuple to one of the relation
abbrev pub SomeCompletes : Signature → ℕ → TupleRelation → TupleRelation
SomeCompletes sig c R t = (u : Tree) × IsGround sig u × R (insert t c (Some u))

-- the tuples that come from one of the relation by taking the columns in this order
abbrev pub Exchange : Signature → ℕ → List ℕ → TupleRelation → TupleRelation
Exchange sig columns order R t = (s : Tuple) × IsTuple sig columns s × IsFull s × R s × (t ≡ selected order s)

-- the columns in one order, and then in the other, are as before
abbrev pub UndoesOrder : List ℕ → List ℕ → Type 0
UndoesOrder order places = (k : ℕ) → k < length places → (get_or places k 0 < length order) × (get_or order (get_or places k 0) 0 ≡ k)

-- an order of so many columns: another one undoes it
pub record IsOrder (columns : ℕ) (order : List ℕ) : Type 0 where
  pub count : length order ≡ columns
  pub back : List ℕ
  pub back_count : length back ≡ columns
  pub undoes : UndoesOrder order back
  pub redoes : UndoesOrder back order

-- To believe: the answer of a part is a truth where it has no columns, else a table; it tells the part's truth where for each assignment it accepts the tuple of the columns' terms exactly where the part is true.
use Rattle.std.specs.Prelude.{◌≡◌, ℕ, ◌<◌, List, [], length, Bool, Decides}
use Rattle.fort_theory.specs.Signatures.{Signature, IsGround}
use Rattle.fort_theory.specs.Structures.{Structure}
use Rattle.fort_theory.specs.Cores.{Core}
use Rattle.fort_theory.specs.CoreTruth.{Places, IsMetBy}
use Rattle.fort_tables.specs.Tuples.{Tuple}
use Rattle.fort_tables.specs.Tables.{Table, IsTable, IsReached}
use Rattle.fort_alike.specs.AssignedTuples.{tuple_of}
use Rattle.fort_tables.specs.OperationTruth.{accepts}
use Rattle.fort_parts.specs.PartColumns.{columns_of}

pub data Answer : Type 0 where
  OfValue : Bool → Answer
  OfTable : Table → Answer

-- what it says of a tuple of terms
abbrev pub said : Answer → Tuple → Bool
said (OfValue b) t = b
said (OfTable table) t = accepts table t

-- an assignment of ground terms
abbrev pub AreGround : Signature → Places → Type 0
AreGround sig v = (n : ℕ) → IsGround sig (v n)

abbrev pub TellsTruth : Structure → Core → (Tuple → Bool) → Type 0
TellsTruth structure f test = (v : Places) → AreGround structure.signature v → Decides (test (tuple_of v (columns_of f))) (IsMetBy structure f v)

-- a lawful table over these columns, each of whose states has a tuple
pub record IsTableOver (sig : Signature) (columns : List ℕ) (table : Table) : Type 0 where
  pub some : 0 < length columns
  pub signature : table.signature ≡ sig
  pub columns_are : table.columns ≡ length columns
  pub lawful : IsTable table
  pub reached : IsReached table

abbrev pub FitsColumns : Signature → List ℕ → Answer → Type 0
FitsColumns sig columns (OfValue b) = columns ≡ []
FitsColumns sig columns (OfTable table) = IsTableOver sig columns table

pub record IsAnswerTo (structure : Structure) (f : Core) (answer : Answer) : Type 0 where
  pub over : FitsColumns structure.signature (columns_of f) answer
  pub truth : TellsTruth structure f (said answer)

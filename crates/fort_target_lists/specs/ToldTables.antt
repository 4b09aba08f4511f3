-- To believe: the table whose targets are told, and which states may be the first children under a tuple symbol.
use Rattle.std.specs.Prelude.{◌≡◌, ℕ, suc, ◌<◌, List, length, get_or}
use Rattle.fort_theory.specs.Signatures.{Signature}
use Rattle.fort_tables.specs.Tuples.{TupleSymbol, symbol_kids, kid_presence}
use Rattle.fort_tables.specs.Tables.{Table}

-- a table with this signature, over so many columns, with these presences
pub record IsTableOver (body : Table) (sig : Signature) (columns : ℕ) (presences : List ℕ) : Type 0 where
  pub signature : sig ≡ body.signature
  pub columns_are : columns ≡ body.columns
  pub presences_are : presences ≡ body.presences

-- each is a state of its child's presence
pub record AreFirstKids (body : Table) (f : TupleSymbol) (ks : List ℕ) : Type 0 where
  pub within : (i : ℕ) → i < length ks → get_or ks i 0 < length body.presences
  pub presence : (i : ℕ) → i < length ks → get_or body.presences (get_or ks i 0) 0 ≡ kid_presence body.signature f i

-- the same, and one child is left
pub record AreAllButLast (body : Table) (f : TupleSymbol) (ks : List ℕ) : Type 0 where
  pub first : AreFirstKids body f ks
  pub count : suc (length ks) ≡ symbol_kids body.signature f

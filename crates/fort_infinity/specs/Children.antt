-- Inside: lists of the children of each state, and the search for them.
use Rattle.std.specs.Prelude.{◌≡◌, ◌↔◌, ℕ, ◌<◌, List, [], length, get_or, Contains}
use Rattle.fort_tables.specs.Tuples.{TupleSymbol}
use Rattle.fort_tables.specs.Tables.{Table}
use Rattle.fort_tables.specs.Projections.{ArePure}
use Rattle.fort_tables.specs.PureStates.{IsPureChild}
use Rattle.fort_tables.specs.PureSearch.{lone_symbol}

-- for each state a list of exactly its children
pub record AreChildren (body : Table) (c : ℕ) (children : List (List ℕ)) : Type 0 where
  pub count : length children ≡ length body.presences
  pub each : (q k : ℕ) → Contains (get_or children q []) k ↔ IsPureChild body c q k

-- a column and the states with it alone present
pub record IsPureColumn (body : Table) (c : ℕ) (alone : List ℕ) : Type 0 where
  pub column : c < body.columns
  pub pure : ArePure body c alone

-- the symbol g alone in the column
pub record IsLone (body : Table) (c g : ℕ) (f : TupleSymbol) : Type 0 where
  pub within : g < length body.signature
  pub symbol : f ≡ lone_symbol body c g

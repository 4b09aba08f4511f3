-- To believe: the places at which a table tells its states by classes, and the states that may stand at some place of a view.
use Rattle.std.specs.Prelude.{◌≡◌, ℕ, ◌<◌}
use Rattle.fort_tables.specs.Tuples.{TupleSymbol, IsTupleSymbol, symbol_kids}
use Rattle.fort_tables.specs.Tables.{Table}
use Rattle.fort_classes.specs.Leaders.{MayBeKid}

-- a place of a child under one of the table's tuple symbols
pub record IsPlaceUnder (table : Table) (f : TupleSymbol) (j : ℕ) : Type 0 where
  pub symbol : IsTupleSymbol table.signature table.columns f
  pub place : j < symbol_kids table.signature f

-- some place has the view of this number, by these numbers of views, and the state may stand there
pub record IsSeenIn (table : Table) (number : TupleSymbol → ℕ → ℕ) (view state : ℕ) : Type 0 where
  pub symbol : TupleSymbol
  pub place : ℕ
  pub view_is : number symbol place ≡ view
  pub may : MayBeKid table.signature table.columns table.presences symbol place state

-- To believe: where the targets under tuple symbols stand in a table's list.
use Rattle.std.specs.Prelude.{◌≡◌, ℕ, ◌-◌, ◌^◌, ◌<◌, get_or, None, IsTrue}
use Rattle.std.specs.List.{insert}
use Rattle.fort_tables.specs.Tuples.{TupleSymbol, IsTupleSymbol}
use Rattle.fort_tables.specs.Tables.{Table}
use Rattle.fort_target_lists.specs.TargetLists.{IsTargetListOf}
use Rattle.fort_target_lists.specs.Flats.{base_of}
use Rattle.fort_target_lists.specs.Places.{number_of}
use Rattle.fort_target_lists.specs.declared.look_up.LookUp.{LookUp}
use Rattle.fort_target_lists.specs.declared.look_up.Finder.{Finder}

-- it finds the targets under this tuple symbol, by its number or by where they start
pub record FindsUnder (body : Table) (f : TupleSymbol) (look_up : LookUp) : Type 0 where
  pub list : IsTargetListOf body look_up.list.now
  pub number : look_up.number ≡ number_of (base_of body) f
  pub start : IsTrue look_up.list.now.is_made → look_up.start ≡ get_or look_up.list.now.list.listing.starts.items look_up.number 0

-- it finds those under this tuple symbol of the other columns with one more column c
pub record FindsAbove (body : Table) (f : TupleSymbol) (c : ℕ) (finder : Finder) : Type 0 where
  pub list : IsTargetListOf body finder.list.now
  pub few : base_of body ^ body.columns < 2 ^ 64
  pub column : c < body.columns
  pub symbol : IsTupleSymbol body.signature (body.columns - 1) f
  pub number : finder.number ≡ number_of (base_of body) (insert f c None)
  pub step : finder.step ≡ base_of body ^ (body.columns - 1 - c)

-- Inside: what a table's counts are, and where the targets under a tuple symbol stand by the child at a place.
use Rattle.std.specs.Prelude.{◌≡◌, ℕ, suc, ◌-◌, ◌^◌, length, get_or}
use Rattle.fort_tables.specs.Tuples.{TupleSymbol, symbol_kids, kid_presence}
use Rattle.fort_tables.specs.Tables.{Table, listed_table}
use Rattle.fort_tables.specs.StateRanks.{count_of}
use Rattle.fort_target_lists.specs.Places.{number_of, AreCounts}
use Rattle.fort_target_lists.specs.Flats.{IsFlatOf}
use Rattle.fort_target_lists.specs.declared.flat.FlatTargets.{FlatTargets}
use Rattle.fort_target_lists.proofs.PlaceLaws.{room}
use Rattle.fort_classed_tables.specs.declared.columns.Columns.{Columns}
use Rattle.fort_classed_tables.specs.declared.counted.Counted.{Counted}

pub record IsCounted (c : Counted) : Type 0 where
  pub flat_is : IsFlatOf (listed_table c.table.now) c.flat.now
  pub counts_are : AreCounts c.table.now.presences c.counts.now
  pub size : length c.counts.now ≡ 2 ^ c.table.now.columns

-- the targets of the tuple symbol's entries, by the child at the place
pub record AreColumnsAt (table : Table) (flat : FlatTargets) (f : TupleSymbol) (place : ℕ) (c : Columns) : Type 0 where
  pub targets_are : c.targets.now ≡ flat.listing.targets.items
  pub start_is : c.start ≡ get_or flat.listing.starts.items (number_of flat.base f) 0
  pub outer_is : c.outer ≡ room table.presences (kid_presence table.signature f) 0 place
  pub count_is : c.count ≡ count_of (kid_presence table.signature f place) table.presences
  pub inner_is : c.inner ≡ room table.presences (kid_presence table.signature f) (suc place) (symbol_kids table.signature f - suc place)

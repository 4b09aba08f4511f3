use Rattle.std.proofs.Common.{◌≡◌}
use Rattle.fort_tables.specs.Tables.{listed_table}
use Rattle.fort_tuple_symbols.specs.SymbolNumbers.{columns_at}
use Rattle.fort_target_lists.specs.Flats.{base_of}
use Rattle.fort_classed_tables.specs.MakingViews.{AreLedTo}
use Rattle.fort_classed_tables.proofs.place_views.views_of.Given as goal

abbrev pub invariant-symbols : goal.invariant-symbols
invariant-symbols l = record {
  symbol : l.symbol ≡ columns_at (base_of (listed_table l.counted.table.now)) l.counted.table.now.columns l.counter;
  led : AreLedTo (listed_table l.counted.table.now) l.counter l.views;
}

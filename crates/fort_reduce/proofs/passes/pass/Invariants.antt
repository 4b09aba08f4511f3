use Rattle.std.proofs.Common.{◌≡◌, ◌+◌, length}
use Rattle.fort_tables.specs.Tables.{listed_table}
use Rattle.fort_tuple_symbols.specs.SymbolNumbers.{columns_at}
use Rattle.fort_tables.specs.Refinement.{IsRefined}
use Rattle.fort_reduce.specs.Walks.{IsWalked, AreWholeBelow}
use Rattle.fort_reduce.proofs.passes.pass.Given as goal

abbrev pub invariant-symbols : goal.invariant-symbols
invariant-symbols l = record {
  symbol : l.symbol ≡ columns_at (length l.table.signature + 1) l.table.columns l.counter;
  refined : IsRefined (listed_table l.table) l.classes.of.items l.classes.leaders.items;
  walked : IsWalked (AreWholeBelow (listed_table l.table) l.initial.classes.of.items l.initial.classes.leaders.items (length l.table.signature + 1) l.counter)
      l.initial.classes.of.items l.initial.classes.leaders.items l.classes.of.items l.classes.leaders.items;
}

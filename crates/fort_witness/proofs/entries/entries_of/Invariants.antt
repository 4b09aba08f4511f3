use Rattle.std.proofs.Common.{◌≡◌}
use Rattle.fort_tables.specs.Tables.{listed_table}
use Rattle.fort_witness.specs.RowsLeft.{rows_after}
use Rattle.fort_witness.specs.Solving.{AreEntriesTo}
use Rattle.fort_witness.proofs.entries.entries_of.Given as goal

abbrev pub invariant-entries : goal.invariant-entries
invariant-entries l = record {
  to : AreEntriesTo (listed_table l.table) l.all.items l.entries.last;
  signature : l.entries.signature ≡ l.table.signature;
  columns_are : l.entries.columns ≡ l.table.columns;
}

abbrev pub decreases-entries : goal.decreases-entries
decreases-entries l = rows_after l.entries.last l.table.entries

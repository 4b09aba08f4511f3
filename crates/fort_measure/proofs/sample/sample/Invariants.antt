use Rattle.std.proofs.Common.{◌≡◌}
use Rattle.fort_measure.specs.Samples.{AreEntries}
use Rattle.fort_measure.proofs.sample.sample.Given as goal

abbrev pub invariant-loop : goal.invariant-loop
invariant-loop l = record {
  signature : l.entries.signature ≡ l.table.signature;
  columns : l.entries.columns ≡ l.table.columns;
  rows : AreEntries l.table l.rows.items;
}

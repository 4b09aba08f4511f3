-- To believe: a table with other accepting states has the same entries and targets.
use Rattle.std.specs.Prelude.{List, Bool}
use Rattle.fort_tables.specs.Tables.{Listed}

abbrev pub with_finals : Listed → List Bool → Listed
with_finals t finals = record {
  signature = t.signature;
  columns = t.columns;
  presences = t.presences;
  entries = t.entries;
  targets = t.targets;
  finals = finals;
}

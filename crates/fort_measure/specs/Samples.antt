-- To believe: all of these are entries of the table.
use Rattle.std.specs.Prelude.{List, Contains}
use Rattle.fort_tables.specs.Entries.{Entry}
use Rattle.fort_tables.specs.Tables.{Listed, IsTableEntry, listed_table}

abbrev pub AreEntries : Listed → List Entry → Type 0
AreEntries t entries = (e : Entry) → Contains entries e → IsTableEntry (listed_table t) e

-- To believe: what comes of a merge on the table of its part, and the table that the part has from then on: that of the classes, by its entries in their order.
use Rattle.std.specs.Prelude.{ℕ, List, map}
use Rattle.fort_tables.specs.Tuples.{tabulate}
use Rattle.fort_tables.specs.Entries.{Entry}
use Rattle.fort_tables.specs.Tables.{Table, Listed}
use Rattle.fort_tables.specs.Merges.{count_of, merged}
use Rattle.fort_tables.specs.MergeOutcomes.{MergeOutcome, Merges, WrongCount, WrongClass, IsSplitAt}
use Rattle.fort_certificate_theory.specs.Outcomes.{StepOutcome, Fine, Fails, Count, Class, Split}

abbrev pub step_outcome : MergeOutcome → StepOutcome
step_outcome Merges = Fine
step_outcome WrongCount = Fails 0 Count
step_outcome (WrongClass q) = Fails q Class
step_outcome (IsSplitAt i) = Fails i Split

-- the table of the classes, whose entries these are
abbrev pub listed_merge : Table → (classes : List ℕ) → List Entry → Listed
listed_merge table classes entries = record {
  signature = table.signature;
  columns = table.columns;
  presences = (merged table classes).presences;
  entries = entries;
  targets = map (merged table classes).target entries;
  finals = tabulate (count_of classes) (merged table classes).accepting;
}

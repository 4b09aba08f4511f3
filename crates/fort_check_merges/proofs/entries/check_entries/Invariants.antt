use Rattle.std.proofs.Common.{◌≡◌, ℕ, ◌<◌, ◌≤◌, take, length, get_or, vec_capacity}
use Rattle.fort_tables.specs.Entries.{no_entry}
use Rattle.fort_tables.specs.MergeOutcomes.{IsWholeAt}
use Rattle.fort_check_merges.specs.GivenMerges.{table_in, listed_in}
use Rattle.fort_check_merges.specs.KeptTargets.{kept_targets}
use Rattle.fort_check_steps.proofs.ListedWalks.{entry_before}
use Rattle.fort_check_merges.proofs.entries.check_entries.Given as goal

abbrev pub invariant-entries : goal.invariant-entries
invariant-entries l = record {
  signature : l.entries.signature ≡ l.given.signature.now;
  columns : l.entries.columns ≡ l.given.columns;
  last : l.entries.last ≡ entry_before (listed_in l.given) l.place;
  whole : (k : ℕ) → k < l.place → IsWholeAt (table_in l.given) l.given.classes.now (get_or (listed_in l.given).entries k (no_entry l.given.columns));
  merged : l.merged.items ≡ kept_targets (table_in l.given) l.given.classes.now (take l.place (listed_in l.given).entries);
  few : length l.merged.items ≤ l.place;
  capacity : vec_capacity l.merged ≡ vec_capacity l.fn.merged;
}

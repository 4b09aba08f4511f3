use Rattle.std.proofs.Common.{◌≡◌, ◌<◌, ℕ, get_or}
use Rattle.fort_tables.specs.Entries.{entry, no_entry}
use Rattle.fort_check_steps.proofs.ListedWalks.{entry_before}
use Rattle.fort_check_steps.proofs.table.target_by_walk.Given as goal

abbrev pub invariant-targets : goal.invariant-targets
invariant-targets l = record {
  signature : l.entries.signature ≡ l.table.table.signature;
  columns : l.entries.columns ≡ l.table.table.columns;
  last : l.entries.last ≡ entry_before l.table.table l.place;
  others : (j : ℕ) → j < l.place → get_or l.table.table.entries j (no_entry l.table.table.columns) ≡ entry l.sym l.kids → ⊥;
}

use Rattle.std.proofs.Common.{◌≡◌, map}
use Rattle.fort_findings.specs.FindingView.{as_count}
use Rattle.fort_check_steps.specs.Marks.{IsSeenTo}
use Rattle.fort_check_steps.proofs.ListedWalks.{entry_before}
use Rattle.fort_check_steps.proofs.marks.see_entries.Given as goal

abbrev pub invariant-targets : goal.invariant-targets
invariant-targets l = record {
  signature : l.entries.signature ≡ l.table.table.signature;
  columns : l.entries.columns ≡ l.table.table.columns;
  last : l.entries.last ≡ entry_before l.table.table l.place;
  seen : IsSeenTo l.table.table l.column l.states (map as_count l.marks) l.place l.holds;
}

use Rattle.std.proofs.Common.{◌≡◌, ◌≤◌, ◌-◌, ◌^◌, length}
use Rattle.fort_tests_tables.proofs.small_tables.table_from.Given as goal

abbrev pub invariant-entries : goal.invariant-entries
invariant-entries l = record {
  columns : l.maker.columns ≡ l.columns;
  presences : l.maker.presences ≡ l.presences.items;
  few : length l.presences.items ≤ l.most;
}

abbrev pub decreases-entries : goal.decreases-entries
decreases-entries l = 2 ^ 64 - length l.maker.targets

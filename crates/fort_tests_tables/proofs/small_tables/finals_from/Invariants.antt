use Rattle.std.proofs.Common.{◌≡◌, ℕ, ◌<◌, length, get_or, true, false}
use Rattle.fort_tables.specs.Tables.{full_presence}
use Rattle.fort_tests_tables.proofs.small_tables.finals_from.Given as goal

abbrev pub invariant-loop-q : goal.invariant-loop-q
invariant-loop-q l = record {
  count : length l.finals.items ≡ l.q;
  full : (k : ℕ) → k < l.q → get_or l.finals.items k false ≡ true → get_or l.table.presences k 0 ≡ full_presence l.table.columns;
}

use Rattle.std.proofs.Common.{◌≡◌, ℕ, length, get_or, false}
use Rattle.fort_tests_tables.proofs.small_tables.no_finals.Given as goal

abbrev pub invariant-loop-k : goal.invariant-loop-k
invariant-loop-k l = record {
  count : length l.finals.items ≡ l._k;
  none : (q : ℕ) → get_or l.finals.items q false ≡ false;
}

use Rattle.std.specs.Prelude.{◌≡◌, ℕ, ◌<◌, length, get_or, false}
use Rattle.fort_tables.specs.Tables.{listed_table}
use Rattle.fort_tables.specs.OperationTruth.{complemented}
use Rattle.fort_rrn_algebra.proofs.negation.turned_finals.Given as goal

abbrev pub invariant-loop-q : goal.invariant-loop-q
invariant-loop-q l = record {
  count : length l.finals.items ≡ l.q;
  each : (q : ℕ) → q < l.q → get_or l.finals.items q false ≡ (complemented (listed_table l.table)).accepting q;
}

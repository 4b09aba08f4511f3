use Rattle.std.proofs.Common.{◌≡◌, ℕ, ◌-◌, ◌^◌, min, List, length}
use Rattle.fort_tuple_symbols.specs.SymbolNumbers.{columns_at}
use Rattle.fort_target_lists.specs.Places.{AreCounts}
use Rattle.fort_target_lists.specs.Walks.{entries_before}
use Rattle.fort_target_lists.proofs.EntryCounts.{table_with}
use Rattle.fort_target_lists.proofs.entry_count.count_entries.Given as goal

abbrev pub invariant-loop : goal.invariant-loop
invariant-loop l = record {
  symbol : l.symbol ≡ columns_at l.base l.columns l.counter;
  sum : (ps : List ℕ) → AreCounts ps l.counts → l.sum ≡ min (length (entries_before (table_with l.signature l.columns ps) l.counter)) (2 ^ 64 - 1);
}

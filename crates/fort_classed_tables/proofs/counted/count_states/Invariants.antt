use Rattle.std.proofs.Common.{◌≡◌, ℕ, ◌<◌, ◌^◌, get_or, length}
use Rattle.fort_tables.specs.StateRanks.{rank_in}
use Rattle.fort_classed_tables.proofs.counted.count_states.Given as goal

abbrev pub invariant-loop-q : goal.invariant-loop-q
invariant-loop-q l = record {
  long : length l.counts.items ≡ 2 ^ l.table.columns;
  counts : (w : ℕ) → w < 2 ^ l.table.columns → get_or l.counts.items w 0 ≡ rank_in w l.table.presences l.q;
}

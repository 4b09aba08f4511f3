use Rattle.std.proofs.Common.{◌≡◌, ℕ, ◌<◌, get_or, length}
use Rattle.fort_tables.specs.StateRanks.{rank_in}
use Rattle.fort_target_lists.proofs.entry_count.count_states.Given as goal

abbrev pub invariant-loop-q : goal.invariant-loop-q
invariant-loop-q l = record {
  long : length l.counts ≡ length l.initial.counts;
  counts : (w : ℕ) → w < length l.initial.counts → get_or l.counts w 0 ≡ rank_in w l.presences l.q;
}

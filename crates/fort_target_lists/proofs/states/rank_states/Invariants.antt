use Rattle.std.proofs.Common.{◌≡◌, ℕ, ◌<◌, get_or, length, vec_capacity}
use Rattle.fort_tables.specs.StateRanks.{rank_in}
use Rattle.fort_target_lists.proofs.states.rank_states.Given as goal

abbrev pub invariant-loop-q : goal.invariant-loop-q
invariant-loop-q l = record {
  size : length l.ranks.items ≡ l.q;
  long : length l.counts ≡ length l.initial.counts;
  done : (k : ℕ) → k < l.q → get_or l.ranks.items k 0 ≡ rank_in (get_or l.presences k 0) l.presences k;
  counts : (w : ℕ) → w < length l.initial.counts → get_or l.counts w 0 ≡ rank_in w l.presences l.q;
  room : vec_capacity l.ranks ≡ vec_capacity l.initial.ranks;
}

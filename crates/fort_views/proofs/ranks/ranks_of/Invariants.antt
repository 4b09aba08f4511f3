use Rattle.std.proofs.Common.{◌≡◌, ℕ, ◌<◌, ◌^◌, get_or, length}
use Rattle.fort_entry_walk.specs.Walks.{states_with}
use Rattle.fort_views.proofs.ranks.ranks_of.Given as goal

abbrev pub invariant-loop-q : goal.invariant-loop-q
invariant-loop-q l = record {
  size : length l.ranks.items ≡ l.q;
  long : length l.counts.items ≡ 2 ^ l.columns;
  ranks : (k : ℕ) → k < l.q → get_or l.ranks.items k 0 ≡ length (states_with l.presences (get_or l.presences k 0) 0 k);
  counts : (w : ℕ) → w < 2 ^ l.columns → get_or l.counts.items w 0 ≡ length (states_with l.presences w 0 l.q);
}

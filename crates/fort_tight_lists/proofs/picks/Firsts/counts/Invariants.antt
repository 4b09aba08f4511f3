use Rattle.std.proofs.Common.{◌≡◌, ℕ, ◌<◌, [], map, vec_items, length, get_or}
use Rattle.fort_tight_lists.proofs.picks.Firsts.counts.Given as goal

abbrev pub invariant-loop-place : goal.invariant-loop-place
invariant-loop-place l = record {
  size : length l.counts ≡ 8;
  are : (j : ℕ) → j < l.place → get_or l.counts j 0 ≡ length (get_or (map vec_items l.self.lists.now) j []);
}

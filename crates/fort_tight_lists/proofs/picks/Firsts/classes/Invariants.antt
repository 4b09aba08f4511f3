use Rattle.std.proofs.Common.{◌≡◌, ℕ, ◌<◌, [], map, vec_items, length, take, get_or}
use Rattle.fort_tight_lists.proofs.picks.Firsts.classes.Given as goal

abbrev pub invariant-loop-place : goal.invariant-loop-place
invariant-loop-place l = record {
  size : length l.classes ≡ 8;
  are : (j : ℕ) → j < l.place → get_or l.classes j 0 ≡ get_or (get_or (map vec_items l.self.lists.now) j []) (get_or (take (length l.self.lists.now) l.numbers) j 0) 0;
}

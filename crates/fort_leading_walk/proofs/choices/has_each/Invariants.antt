use Rattle.std.proofs.Common.{ℕ, ◌<◌, [], length, get_or}
use Rattle.fort_leading_walk.proofs.choices.has_each.Given as goal

abbrev pub invariant-loop-place : goal.invariant-loop-place
invariant-loop-place g l = (k : ℕ) → k < l.place → 0 < length (get_or (g.L.LeaderLists.lists l.lists) k [])

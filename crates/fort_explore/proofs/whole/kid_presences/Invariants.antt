use Rattle.std.proofs.Common.{◌≡◌, ℕ, ◌<◌, get_or, length}
use Rattle.fort_explore.proofs.whole.kid_presences.Given as goal

abbrev pub invariant-loop-place : goal.invariant-loop-place
invariant-loop-place l = record {
  size : length l.wanted ≡ 8;
  are : (j : ℕ) → j < l.place → get_or l.wanted j 0 ≡ get_or l.presences (get_or l.kids j 0) 0;
}

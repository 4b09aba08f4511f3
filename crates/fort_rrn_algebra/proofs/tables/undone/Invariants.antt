use Rattle.std.proofs.Common.{◌≡◌, ℕ, ◌<◌, get_or, length}
use Rattle.fort_rrn_algebra.proofs.tables.undone.Given as goal

abbrev pub invariant-loop-k : goal.invariant-loop-k
invariant-loop-k l = record {
  size : length l.places ≡ 16;
  undone : (k : ℕ) → k < l.k → get_or l.places (get_or l.order k 0) 0 ≡ k;
}

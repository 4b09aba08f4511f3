use Rattle.std.proofs.Common.{◌≡◌, ℕ, ◌<◌, get_or, length}
use Rattle.fort_tables.specs.Tuples.{kid_presence}
use Rattle.fort_class_targets.proofs.kids.kid_presences.Given as goal

abbrev pub invariant-loop-place : goal.invariant-loop-place
invariant-loop-place l = record {
  size : length l.wanted ≡ 8;
  are : (j : ℕ) → j < l.place → get_or l.wanted j 0 ≡ kid_presence l.sig l.symbol j;
}

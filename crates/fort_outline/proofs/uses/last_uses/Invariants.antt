use Rattle.std.proofs.Common.{◌≡◌, ℕ, ◌<◌, ◌≤◌, length, get_or}
use Rattle.fort_outline.proofs.UseLaws.{AreNoted, AreUsed}
use Rattle.fort_outline.proofs.uses.last_uses.Given as goal

abbrev pub invariant-loop-k : goal.invariant-loop-k
invariant-loop-k l = record {
  count : length l.all ≡ length l.roots;
  noted : AreNoted l.roots l.all l.k;
  used : AreUsed l.roots l.all l.k;
  low : (j : ℕ) → j < length l.all → get_or l.all j 0 ≤ l.k;
}

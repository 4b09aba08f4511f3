use Rattle.std.proofs.Common.{ℕ, ◌<◌, ◌≤◌, get_or}
use Rattle.fort_infinity.specs.RankTests.{IsEarlier}
use Rattle.fort_infinity.proofs.ranks.first_open.Given as goal

abbrev pub invariant-loop-place : goal.invariant-loop-place
invariant-loop-place l = (i : ℕ) → l.from ≤ i → i < l.place → IsEarlier l.ranks l.round (get_or l.children i 0)

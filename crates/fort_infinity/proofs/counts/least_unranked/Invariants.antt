use Rattle.std.proofs.Common.{◌≡◌, drop, get_or}
use Rattle.fort_infinity.specs.LeastUnranked.{least_from, greatest_number}
use Rattle.fort_infinity.proofs.counts.least_unranked.Given as goal

abbrev pub invariant-loop-k : goal.invariant-loop-k
invariant-loop-k l = least_from (λ k. get_or l.ranks k 0) l.least (drop l.k-index l.children) ≡ least_from (λ k. get_or l.ranks k 0) greatest_number l.children

use Rattle.std.proofs.Common.{◌≡◌, ◌+◌, ◌++◌, map, take}
use Rattle.fort_transducers.proofs.beside.push_pairs.Given as goal

abbrev pub invariant-loop-pair : goal.invariant-loop-pair
invariant-loop-pair l = l.joined.items ≡ l.initial.joined.items ++ map (λ p. (p.0 + l.first_by, p.1 + l.second_by)) (take l.pair-index l.pairs)

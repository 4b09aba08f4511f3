use Rattle.std.proofs.Common.{◌≡◌, map, take}
use Rattle.fort_relation_exprs.specs.RexInside.{pair_place}
use Rattle.fort_relation_exprs.proofs.labels.places_of_pairs.Given as goal

abbrev pub invariant-loop-pair : goal.invariant-loop-pair
invariant-loop-pair l = l.places.items ≡ map pair_place (take l.pair-index l.pairs)

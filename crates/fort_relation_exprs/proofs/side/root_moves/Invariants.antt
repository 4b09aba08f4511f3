use Rattle.std.proofs.Common.{map, take}
use Rattle.fort_label_bits.specs.RootPlaces.{IsRooted}
use Rattle.fort_relation_exprs.specs.Sides.{move_in, move_roots}
use Rattle.fort_relation_exprs.proofs.side.root_moves.Given as goal

abbrev pub invariant-loop-k : goal.invariant-loop-k
invariant-loop-k l = IsRooted (move_roots (take l.k (map move_in l.moves))) l.roots

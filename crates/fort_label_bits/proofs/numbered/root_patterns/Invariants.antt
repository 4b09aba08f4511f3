use Rattle.std.proofs.Common.{map, take}
use Rattle.fort_label_bits.specs.RootPlaces.{IsRooted, root_of}
use Rattle.fort_label_bits.proofs.numbered.root_patterns.Given as goal

abbrev pub invariant-loop-k : goal.invariant-loop-k
invariant-loop-k l = IsRooted (map root_of (take l.k l.patterns)) l.rooted

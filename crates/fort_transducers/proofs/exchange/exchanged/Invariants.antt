use Rattle.std.proofs.Common.{◌≡◌, map, take}
use Rattle.fort_transducers.proofs.InverseLaws.{exchanged}
use Rattle.fort_transducers.proofs.exchange.exchanged.Given as goal

abbrev pub invariant-loop-from : goal.invariant-loop-from
invariant-loop-from l = l.backwards.items ≡ map exchanged (take l.from-index l.pairs)

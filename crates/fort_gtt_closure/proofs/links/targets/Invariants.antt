use Rattle.std.proofs.Common.{◌≡◌, take}
use Rattle.fort_gtt_closure.specs.Scans.{targets}
use Rattle.fort_gtt_closure.proofs.links.targets.Given as goal

abbrev pub invariant-loop-k : goal.invariant-loop-k
invariant-loop-k l = l.found.items ≡ targets 0 (take l.k l.moves)

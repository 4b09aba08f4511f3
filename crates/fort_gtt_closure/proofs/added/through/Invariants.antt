use Rattle.std.proofs.Common.{◌≡◌, take}
use Rattle.fort_gtt_closure.specs.Groups.{through}
use Rattle.fort_gtt_closure.proofs.added.through.Given as goal

abbrev pub invariant-loop-pair : goal.invariant-loop-pair
invariant-loop-pair l = l.moves.items ≡ through l.groups (take l.pair-index l.pairs)

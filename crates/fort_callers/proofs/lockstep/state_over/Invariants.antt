use Rattle.std.proofs.Common.{◌≡◌, map, take, get_or}
use Rattle.fort_callers.proofs.lockstep.state_over.Given as goal

abbrev pub invariant-loop-kid : goal.invariant-loop-kid
invariant-loop-kid l = l.own.items ≡ map (λ k. get_or l.states k 0) (take l.kid-index l.kid-items)

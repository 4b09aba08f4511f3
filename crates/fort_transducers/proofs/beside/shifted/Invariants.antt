use Rattle.std.proofs.Common.{◌≡◌, ◌+◌, map, take}
use Rattle.fort_transducers.proofs.beside.shifted.Given as goal

abbrev pub invariant-loop-state : goal.invariant-loop-state
invariant-loop-state l = l.moved.items ≡ map (λ q. q + l.by) (take l.state-index l.states)

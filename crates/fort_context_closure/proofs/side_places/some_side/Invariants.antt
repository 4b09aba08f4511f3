use Rattle.std.proofs.Common.{◌≡◌, drop}
use Rattle.fort_context_closure.specs.SidePlaces.{some_side}
use Rattle.fort_context_closure.proofs.side_places.some_side.Given as goal

abbrev pub invariant-loop-side : goal.invariant-loop-side
invariant-loop-side l = some_side l.sides l.label ≡ some_side (drop l.side-index l.sides) l.label

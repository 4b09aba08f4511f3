use Rattle.std.proofs.Common.{◌≡◌, [], take}
use Rattle.std.specs.Prelude.{Contains}
use Rattle.fort_tree_automata.specs.declared.nta.Move.{Move}
use Rattle.fort_gtt_closure.proofs.links.leaves.Given as goal

abbrev pub invariant-loop-step : goal.invariant-loop-step
invariant-loop-step l = (step : Move) → Contains (take l.step-index l.moves) step → step.kids.items ≡ [] → Contains l.found.items (step.sym.0, step.target)

use Rattle.std.proofs.Common.{take}
use Rattle.fort_gtt_closure.specs.Links.{AreUses}
use Rattle.fort_gtt_closure.proofs.links.uses.Given as goal

abbrev pub invariant-loop-step : goal.invariant-loop-step
invariant-loop-step l = AreUses l.states (take l.step-index l.moves) l.groups

use Rattle.std.proofs.Common.{map}
use Rattle.fort_steps.specs.StepView.{as_step}
use Rattle.fort_cert_checker.specs.Makings.{AreRoomsMade}
use Rattle.fort_cert_checker.proofs.making.rooms_of.Given as goal

abbrev pub invariant-loop-k : goal.invariant-loop-k
invariant-loop-k l = AreRoomsMade (map as_step l.steps) l.k l.rooms.items

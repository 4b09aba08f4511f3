use Rattle.std.proofs.Common.{map}
use Rattle.fort_steps.specs.StepView.{as_step}
use Rattle.fort_cert_checker.specs.Makings.{AreMarksMade}
use Rattle.fort_cert_checker.proofs.making.mark_rooms.Given as goal

abbrev pub invariant-loop-plan : goal.invariant-loop-plan
invariant-loop-plan l = AreMarksMade (map as_step l.steps) l.plans l.plan-index l.rooms.items

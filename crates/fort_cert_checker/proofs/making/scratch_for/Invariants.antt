use Rattle.std.proofs.Common.{map}
use Rattle.fort_steps.specs.StepView.{as_step}
use Rattle.fort_check_steps.specs.declared.room.LabelRoom.{LabelRoom}
use Rattle.fort_check_steps.specs.Room.{HasNeeds}
use Rattle.fort_cert_checker.specs.Makings.{IsScratchMade}
use Rattle.fort_cert_checker.proofs.making.scratch_for.Given as goal

abbrev pub invariant-loop-k : goal.invariant-loop-k
invariant-loop-k l = (scratch : LabelRoom) → HasNeeds l.needs scratch → IsScratchMade (map as_step l.steps) l.plans l.k scratch

use Rattle.std.proofs.Common.{map, take}
use Rattle.fort_steps.specs.StepView.{as_step}
use Rattle.fort_cert_checker.specs.Fronts.{HasFewTargets}
use Rattle.fort_cert_checker.proofs.numbers.have_few.Given as goal

abbrev pub invariant-loop-step : goal.invariant-loop-step
invariant-loop-step l = HasFewTargets (map as_step (take l.step-index l.steps))

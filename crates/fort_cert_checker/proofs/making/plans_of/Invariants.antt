use Rattle.std.proofs.Common.{map}
use Rattle.fort_outline.specs.Outlines.{parts_in}
use Rattle.fort_steps.specs.StepView.{as_step}
use Rattle.fort_cert_checker.specs.Makings.{ArePlansMade}
use Rattle.fort_cert_checker.proofs.making.plans_of.Given as goal

abbrev pub invariant-loop-k : goal.invariant-loop-k
invariant-loop-k l = ArePlansMade l.system (parts_in l.outline) (map as_step l.steps) l.k l.plans.items

use Rattle.std.proofs.Common.{map}
use Rattle.fort_dues.specs.DueView.{as_due}
use Rattle.fort_cert_checker.specs.Makings.{AreClosuresMade}
use Rattle.fort_cert_checker.proofs.making.closure_plans.Given as goal

abbrev pub invariant-loop-due : goal.invariant-loop-due
invariant-loop-due l = AreClosuresMade l.system (map as_due l.dues) l.due-index l.plans.items

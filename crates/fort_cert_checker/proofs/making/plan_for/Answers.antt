use Rattle.std.proofs.Common.{ap}
use Rattle.fort_dues.specs.DueView.{as_due}
use Rattle.fort_cert_checker.proofs.making.plan_for.Goals as goal

pub closure_plan-requires : goal.closure_plan-requires
closure_plan-requires c = c.requires _ c.in-Closure.index (ap as_due c.in-Closure.is)

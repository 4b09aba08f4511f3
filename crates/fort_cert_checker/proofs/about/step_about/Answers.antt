use Rattle.std.proofs.Common.{arith}
use Rattle.std.proofs.lemmas.List.{length-map}
use Rattle.fort_steps.specs.StepView.{as_step}
use Rattle.fort_dues.specs.DueView.{as_due}
use Rattle.fort_cert_checker.proofs.AboutLaws.{first_found, none_more}
use Rattle.fort_cert_checker.proofs.about.step_about.Goals as goal

pub returns-then-is_about-clause-some : goal.returns-then-is_about-clause-some
returns-then-is_about-clause-some c =
    first_found c.args.steps.now (as_due c.args.due) c.loop-step.step-index c.step-item.result (omega (arith, c.loop-step-test.true, length-map c.args.steps.now as_step)) c.loop-step-test.true c.step-item.is
    c.loop-step.invariant c.if-is_about.ensures

pub loop-step-preserved : goal.loop-step-preserved
loop-step-preserved c =
    none_more c.args.steps.now (as_due c.args.due) c.loop-step.step-index c.step-item.result (omega (arith, c.loop-step-test.true, length-map c.args.steps.now as_step)) c.loop-step-test.true c.step-item.is
    c.loop-step.invariant c.if-is_about.ensures

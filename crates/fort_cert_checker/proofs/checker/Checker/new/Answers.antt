use Rattle.std.proofs.Common.{List, map, refl, subst}
use Rattle.fort_formulas.specs.CoreView.{as_core}
use Rattle.fort_steps.specs.StepView.{as_step}
use Rattle.fort_steps.specs.declared.step.Step.{Step}
use Rattle.fort_cert_checker.specs.StepCheckers.{IsStepCheckerOf}
use Rattle.fort_cert_checker.proofs.checker.Checker.new.Goals as goal

pub returns : goal.returns
returns c =
    let own = c.args.certificate.now in
    record {
      certificate_is = refl;
      closed = c.requires.closed;
      steps = subst (λ (ss : List Step). IsStepCheckerOf c.args.system.now (as_core c.args.core.now) own.first (map as_step ss) c.in_ok-steps.steps) c.as_slice-listed.ensures.value c.in_ok-steps.ensures;
    }

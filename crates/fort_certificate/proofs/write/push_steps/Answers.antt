use Rattle.std.proofs.Common.{◌++◌, ap, subst, ◌∙◌, arith, map}
use Rattle.std.specs.List.{AllByRecursion}
use Rattle.std.proofs.lemmas.List.{take_all}
use Rattle.fort_certificate.specs.VersionView.{as_version}
use Rattle.fort_certificate_theory.specs.CertificateText.{line_of, step_elements, steps_text}
use Rattle.fort_steps.specs.StepView.{as_step}
use Rattle.fort_certificate.specs.Again.{HasSmallNumbers}
use Rattle.fort_certificate.proofs.SmallLaws.{small_more}
use Rattle.fort_certificate.proofs.LineLaws.{steps_more}
use Rattle.fort_certificate.proofs.write.push_steps.Goals as goal

pub loop-step-preserved : goal.loop-step-preserved
loop-step-preserved c =
    let i = c.loop-step.invariant in
    let steps = c.args.steps.now in
    let here = c.loop-step.step-index in
    record {
      text = c.in_ok-push_step.ensures.text
          ∙ (ap (λ xs. xs ++ line_of (step_elements (as_version c.args.version) (as_step c.step-item.result))) i.text
          ∙ steps_more c.args.out.now.items (as_version c.args.version) steps here c.step-item.result c.loop-step-test.true c.step-item.is);
      small = small_more as_step HasSmallNumbers steps here c.step-item.result c.loop-step-test.true i.small
          (subst (λ s. HasSmallNumbers (as_step s)) c.step-item.is c.in_ok-push_step.ensures.small);
    }

pub returns-clause-text : goal.returns-clause-text
returns-clause-text c =
    c.loop-step.invariant.text
    ∙ ap (λ ss. c.args.out.now.items ++ steps_text (as_version c.args.version) (map as_step ss))
    (take_all c.loop-step.step-index c.args.steps.now (omega arith))

pub returns-clause-small : goal.returns-clause-small
returns-clause-small c =
    subst (λ ss. AllByRecursion HasSmallNumbers (map as_step ss)) (take_all c.loop-step.step-index c.args.steps.now (omega arith))
    c.loop-step.invariant.small

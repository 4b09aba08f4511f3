use Rattle.std.proofs.Common.{List, map, take, subst, sym, ◌∙◌, ap, refl, arith, ⊎_elim}
use Rattle.std.specs.Prelude.{Contains}
use Rattle.std.proofs.lemmas.List.{length-map, get_or-map, take_all, map_more}
use Rattle.std.proofs.lemmas.List.Elements.{Contains-push_cases}
use Rattle.fort_certificate_theory.specs.Certificates as theory
use Rattle.fort_certificate_theory.specs.Certificates.{Part, Merge}
use Rattle.fort_steps.specs.StepView.{as_step}
use Rattle.fort_cert_checker.specs.Fronts.{HasFewTargets}
use Rattle.fort_cert_checker.proofs.numbers.have_few.Goals as goal

pub loop-step-preserved : goal.loop-step-preserved
loop-step-preserved c =
    let item = c.step-item.result in
    let more = map_more as_step c.args.steps.now c.loop-step.step-index item c.loop-step-test.true in
    record {
      targets = λ k targets among.
          ⊎_elim
          (λ before. c.loop-step.invariant.targets k targets before)
          (λ here. (c.if-not-has_few.ensures.0 refl).0 k targets (ap as_step c.step-item.is ∙ here))
          (Contains-push_cases (map as_step (take c.loop-step.step-index c.args.steps.now)) _ (Part k targets) (subst (λ (ss : List theory.Step). Contains ss (Part k targets)) more among));
      classes = λ k classes among.
          ⊎_elim
          (λ before. c.loop-step.invariant.classes k classes before)
          (λ here. (c.if-not-has_few.ensures.0 refl).1 k classes (ap as_step c.step-item.is ∙ here))
          (Contains-push_cases (map as_step (take c.loop-step.step-index c.args.steps.now)) _ (Merge k classes) (subst (λ (ss : List theory.Step). Contains ss (Merge k classes)) more among));
    }

pub returns-then-not-has_few : goal.returns-then-not-has_few
returns-then-not-has_few c =
    let inside = c.loop-step-test.true in
    let at = λ (s : theory.Step). get_or-map as_step c.args.steps.now c.loop-step.step-index c.step-item.result s inside in (
      λ no. absurd cc,
      λ few. c.if-not-has_few.ensures.1 (
        λ k targets same.
            few.targets k targets (c.loop-step.step-index, omega (arith, length-map c.args.steps.now as_step, inside), at (Part k targets) ∙ (ap as_step (sym c.step-item.is) ∙ same)),
        λ k classes same.
            few.classes k classes (c.loop-step.step-index, omega (arith, length-map c.args.steps.now as_step, inside), at (Merge k classes) ∙ (ap as_step (sym c.step-item.is) ∙ same)),
      ),
    )

pub returns : goal.returns
returns c = (λ yes. subst (λ ss. HasFewTargets (map as_step ss)) (take_all c.loop-step.step-index c.args.steps.now (omega arith)) c.loop-step.invariant, λ few. refl)

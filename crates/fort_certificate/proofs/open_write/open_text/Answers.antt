use Rattle.std.proofs.Common.{◌++◌, [], IfSome, IfNone, map, ap, sym, subst, ◌∙◌}
use Rattle.std.proofs.lemmas.Result.{IfOk-weaker}
use Rattle.fort_steps.specs.StepView.{as_step}
use Rattle.fort_certificate_theory.specs.OpenCertificates.{Found, Empty}
use Rattle.fort_certificate_theory.specs.OpenText.{nodes_text}
use Rattle.fort_certificate.specs.OpenWriting.{IsTextFor}
use Rattle.fort_certificate.proofs.LineLaws.{with_nodes}
use Rattle.fort_certificate.proofs.OpenAgain.{text_for, both_ok}
use Rattle.fort_certificate.proofs.open_write.open_text.Goals as goal

pub returns-in_ok-push_nodes-in-Some-clause-found : goal.returns-in_ok-push_nodes-in-Some-clause-found
returns-in_ok-push_nodes-in-Some-clause-found c =
    let steps = map as_step c.args.steps.now in
    let dag = c.in-Some.dag.now in
    let front = c.in_ok-out-in-Some.ensures in
    let nodes = c.in_ok-push_nodes-in-Some.ensures in
    let is = nodes.text ∙ (ap (λ xs. xs ++ nodes_text dag) front.text ∙ with_nodes Found steps dag) in
    subst (λ o. IfSome o (λ d. IsTextFor Found steps d.now c.push_nodes.new.out.items)) (sym c.in-Some.is)
    (text_for Found steps dag c.push_nodes.new.out.items is front.small nodes.small)

pub returns-in-None-clause-empty : goal.returns-in-None-clause-empty
returns-in-None-clause-empty c =
    let steps = map as_step c.args.steps.now in
    let front = c.front-in-None.ensures in
    IfOk-weaker c.front-in-None.result _ _
    (λ text h. subst (λ o. IfNone o (IsTextFor Empty steps [] text.items)) (sym c.in-None.is) (text_for Empty steps [] text.items h.0 h.1 tt))
    (both_ok c.front-in-None.result _ _ front.text front.small)

use Rattle.std.proofs.lemmas.Result.{IfOk-weaker, IfErr-weaker}
use Rattle.fort_certificate.specs.VersionView.{as_version}
use Rattle.fort_certificate_theory.specs.CertificateFaults.{NoHead}
use Rattle.fort_certificate.specs.ReadView.{as_kind}
use Rattle.fort_certificate.proofs.StepsLaws.{step_fits, step_bad}
use Rattle.fort_certificate.proofs.check.check_step.Goals as goal

pub returns-in_default-clause-err : goal.returns-in_default-clause-err
returns-in_default-clause-err c = λ i. NoHead c.in_default.ensures.none

pub returns-clause-ok : goal.returns-clause-ok
returns-clause-ok c =
    IfOk-weaker c.check_elements.result _ _
    (λ x fit. step_fits _ (as_version c.args.version) _ _ _ _ _ c.in-Some.ensures.allowed c.in-Some.ensures.some c.in-Some-elements.ensures.some c.first_slots.ensures c.last_slot.ensures fit)
    (rw c.in-Some-elements.ensures.bytes at c.check_elements.ensures.ok)

pub returns-clause-err : goal.returns-clause-err
returns-clause-err c =
    IfErr-weaker c.check_elements.result _ _
    (λ wrong bad. step_bad _ (as_version c.args.version) _ _ _ _ _ (as_kind wrong) c.in-Some.ensures.allowed c.in-Some.ensures.some c.in-Some-elements.ensures.some c.first_slots.ensures c.last_slot.ensures bad)
    (rw c.in-Some-elements.ensures.bytes at c.check_elements.ensures.err)

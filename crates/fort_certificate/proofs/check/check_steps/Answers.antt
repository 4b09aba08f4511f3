use Rattle.std.proofs.Common.{◌≡◌, subst, arith}
use Rattle.fort_grammar.specs.Declarations.{as_list}
use Rattle.fort_certificate_theory.specs.CertificateForms.{IsStepForm}
use Rattle.fort_certificate_theory.specs.CertificateFaults.{fault_of, IsBadStep}
use Rattle.fort_certificate.specs.VersionView.{as_version}
use Rattle.fort_certificate.specs.Checking.{HasBadStep, between}
use Rattle.fort_certificate.specs.ReadView.{as_kind}
use Rattle.fort_certificate.proofs.FaultLaws.{fault_is}
use Rattle.fort_certificate.proofs.StepsLaws.{form_at-list, AreSomeUpTo, some_more, first_bad}
use Rattle.fort_certificate.proofs.check.check_steps.Goals as goal

pub overflow_cast-i : goal.overflow_cast-i
overflow_cast-i c = omega (arith, c.requires.small, c.steps-test.true)

pub returns-in-Err-clause-fault : goal.returns-in-Err-clause-fault
returns-in-Err-clause-fault c =
    let bytes = c.args.forms.now.bytes in
    let version = as_version c.args.version in
    let here = form_at-list c.args.forms.now.forms c.steps.i c.form.result.form c.form.ensures.form in
    let all = as_list c.args.forms.now.forms in
    fault_is (HasBadStep bytes version c.args.from (between c.args.from c.args.end all)) c.fault_at.result _ c.fault_at.ensures
    (first_bad (IsStepForm bytes version) all c.args.from c.steps.i c.form.result.form c.steps.invariant c.steps.auto.i here (IsBadStep bytes version)
    c.args.end (fault_of c.steps.i (as_kind c.in-Err.wrong)) c.steps-test.true (rw c.form.ensures.bytes at (c.in-Err.ensures.err c.steps.i)))

pub steps-preserved : goal.steps-preserved
steps-preserved c =
    let here = form_at-list c.args.forms.now.forms c.steps.i c.form.result.form c.form.ensures.form in
    some_more (IsStepForm c.args.forms.now.bytes (as_version c.args.version)) (as_list c.args.forms.now.forms) c.args.from c.steps.i c.form.result.form
    c.steps.invariant c.steps.auto.i here (rw c.form.ensures.bytes at c.in-Ok.ensures.ok)

pub returns-clause-ok : goal.returns-clause-ok
returns-clause-ok c =
    let e : c.steps.i ≡ c.args.end = omega (arith, c.steps-test.false, c.steps.auto.i-end c.requires.order) in
    subst (λ i. AreSomeUpTo (IsStepForm c.args.forms.now.bytes (as_version c.args.version)) (as_list c.args.forms.now.forms) c.args.from i) e
    c.steps.invariant

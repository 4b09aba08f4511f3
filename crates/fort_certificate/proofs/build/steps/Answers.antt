use Rattle.std.proofs.Common.{◌≡◌, map, Some, ap, subst, ◌∙◌, arith}
use Rattle.std.specs.List.{AllZip}
use Rattle.fort_grammar.specs.Forms.{Form}
use Rattle.fort_grammar.specs.Declarations.{as_list}
use Rattle.fort_certificate_theory.specs.CertificateForms.{IsStepForm}
use Rattle.fort_certificate_theory.specs.CertificateFaults.{fault_of, IsBadStep}
use Rattle.fort_certificate.specs.Checking.{between}
use Rattle.fort_steps.specs.declared.step.Step.{Step}
use Rattle.fort_steps.specs.StepView.{as_step}
use Rattle.fort_certificate.specs.VersionView.{as_version}
use Rattle.fort_certificate.specs.declared.value.Wrong.{Wrong}
use Rattle.fort_certificate.specs.ReadView.{as_kind}
use Rattle.fort_certificate.proofs.StepsLaws.{form_at-list, first_bad}
use Rattle.fort_certificate.proofs.BuildLaws.{between_none, each_more, each_map}
use Rattle.fort_certificate.proofs.build.steps.Goals as goal

pub steps-init : goal.steps-init
steps-init c = (
  rw (between_none c.args.from (as_list c.args.forms.now.forms), c.in_ok-steps.ensures.items) tt,
  omega (arith, c.in_ok-steps.ensures.len),
  omega (arith, c.in_ok-steps.ensures.capacity),
)

pub push_reserved-requires : goal.push_reserved-requires
push_reserved-requires c = omega (arith, c.steps.invariant.1, c.steps.invariant.2, c.steps-test.true)

pub overflow_cast-i : goal.overflow_cast-i
overflow_cast-i c = omega (arith, c.requires.small, c.steps-test.true)

pub returns-in-Err-Wrong-clause-fault : goal.returns-in-Err-Wrong-clause-fault
returns-in-Err-Wrong-clause-fault c =
    let bytes = c.args.forms.now.bytes in
    let all = as_list c.args.forms.now.forms in
    let here = form_at-list c.args.forms.now.forms c.steps.i c.form.result.form c.form.ensures.form in
    let before = each_map (IsStepForm bytes (as_version c.args.version)) as_step (between c.args.from c.steps.i all) c.steps.steps.items c.steps.invariant.0 in
    let wrong = rw c.in-Err-Wrong.field-0-is at c.in-Err-Wrong.ensures.wrong in
    let is = c.fault_at.ensures ∙ ap (λ (w : Wrong). Some (fault_of c.steps.i (as_kind w))) c.in-Err-Wrong.wrong-is in
    let version = as_version c.args.version in
    rw is (first_bad (IsStepForm bytes version) all c.args.from c.steps.i c.form.result.form (map as_step c.steps.steps.items, before) c.steps.auto.i here
    (IsBadStep bytes version) c.args.end (fault_of c.steps.i (as_kind c.in-Err-Wrong.wrong)) c.steps-test.true (rw c.form.ensures.bytes at (wrong c.steps.i)))

pub steps-preserved : goal.steps-preserved
steps-preserved c =
    let bytes = c.args.forms.now.bytes in
    let all = as_list c.args.forms.now.forms in
    let R : Form → Step → Type 0 = λ f x. IsStepForm bytes (as_version c.args.version) f (as_step x) in
    let here = form_at-list c.args.forms.now.forms c.steps.i c.form.result.form c.form.ensures.form in (
      rw c.push_reserved.ensures.items
          (each_more R all c.args.from c.steps.i c.form.result.form c.steps.steps.items c.in-Ok.step c.steps.auto.i here c.steps.invariant.0
          (rw c.form.ensures.bytes at c.in-Ok.ensures.ok)),
      omega (arith, c.steps.invariant.1, c.push_reserved.ensures.len),
      omega (arith, c.steps.invariant.2, c.push_reserved.ensures.capacity),
    )

pub returns-clause-ok : goal.returns-clause-ok
returns-clause-ok c =
    let bytes = c.args.forms.now.bytes in
    let all = as_list c.args.forms.now.forms in
    let R : Form → Step → Type 0 = λ f x. IsStepForm bytes (as_version c.args.version) f (as_step x) in
    let end : c.steps.i ≡ c.args.end = omega (arith, c.steps-test.false, c.steps.auto.i-end c.requires.order) in
    each_map (IsStepForm bytes (as_version c.args.version)) as_step (between c.args.from c.args.end all) c.steps.steps.items
    (subst (λ i. AllZip R (between c.args.from i all) c.steps.steps.items) end c.steps.invariant.0)

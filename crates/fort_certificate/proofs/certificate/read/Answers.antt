use Rattle.std.proofs.Common.{◌≡◌, ◌+◌, drop, map, arith}
use Rattle.std.proofs.lemmas.Option.{IfSome_then}
use Rattle.std.proofs.lemmas.Result.{err_from_is_err_and}
use Rattle.fort_grammar.specs.Declarations.{as_list}
use Rattle.fort_certificate_theory.specs.CertificateFaults.{IsBadHeader, IsFirstCertificateFault}
use Rattle.fort_steps.specs.StepView.{as_step}
use Rattle.fort_certificate.specs.declared.fault.CertificateFault.TheVariants.{Memory}
use Rattle.fort_certificate.specs.Faults.{as_fault}
use Rattle.fort_certificate.specs.VersionView.{as_version}
use Rattle.fort_certificate.specs.Checking.{HasBadStep}
use Rattle.fort_certificate.proofs.FaultLaws.{fault_then, fault_some}
use Rattle.fort_certificate.proofs.StepsLaws.{form_at-list, form_count-list, header_bad, step_is_bad, certificate_of, no_header, between_end, form_count-bytes}
use Rattle.fort_certificate.proofs.certificate.read.Goals as goal

pub returns-then-from-end-clause-fault : goal.returns-then-from-end-clause-fault
returns-then-from-end-clause-fault c =
    no_header _ c.args.number (as_list c.args.forms.now.forms) c.args.from
    (omega (arith, c.if-from-end.true, c.len-end.ensures.count, form_count-list c.args.forms.now.forms))

pub returns-in_err-header-clause-fault : goal.returns-in_err-header-clause-fault
returns-in_err-header-clause-fault c =
    let p = err_from_is_err_and c.from_residual.result c.from_residual.ensures.1 in
    let bytes = c.args.forms.now.bytes in
    let number = c.args.number in
    let all = as_list c.args.forms.now.forms in
    let from = c.args.from in
    let header = c.form.result.form in
    let here = form_at-list c.args.forms.now.forms from header c.form.ensures.form in
    rw (p.1, p.2) (fault_some (IsFirstCertificateFault bytes number all from) c.in_err-header.field-0.0
    (fault_then (IsBadHeader bytes number from header) (IsFirstCertificateFault bytes number all from) c.in_err-header.field-0.0
    (header_bad bytes number all from header here) (rw c.form.ensures.bytes at c.in_err-header.ensures.fault)))

pub returns-in_err-check_steps-in-Memory-clause-fault : goal.returns-in_err-check_steps-in-Memory-clause-fault
returns-in_err-check_steps-in-Memory-clause-fault c =
    let p = err_from_is_err_and c.from_residual-in_err-check_steps-in-Memory.result c.from_residual-in_err-check_steps-in-Memory.ensures.1 in
    let bytes = c.args.forms.now.bytes in
    let number = c.args.number in
    let all = as_list c.args.forms.now.forms in
    let from = c.args.from in
    let header = c.form.result.form in
    let here = form_at-list c.args.forms.now.forms from header c.form.ensures.form in
    let whole = between_end c.args.forms.now.forms (c.args.from + 1) c.len-end.result c.len-end.ensures.count in
    rw (p.1, p.2) (fault_some (IsFirstCertificateFault bytes number all from) c.in_err-check_steps-in-Memory.field-0.0
    (fault_then (HasBadStep bytes (as_version c.in_ok-header.header.version) (from + 1) (drop (from + 1) all)) (IsFirstCertificateFault bytes number all from)
    c.in_err-check_steps-in-Memory.field-0.0
    (step_is_bad bytes number all from header here (as_version c.in_ok-header.header.version) c.in_ok-header.ensures.of_problem c.in_ok-header.header.verdict (rw c.form.ensures.bytes at c.in_ok-header.ensures.ok))
    (rw whole at c.in_err-check_steps-in-Memory.ensures.fault)))

pub returns-in-Memory-clause-memory : goal.returns-in-Memory-clause-memory
returns-in-Memory-clause-memory c =
    let all = as_list c.args.forms.now.forms in
    let here = form_at-list c.args.forms.now.forms c.args.from c.form.result.form c.form.ensures.form in
    let whole = between_end c.args.forms.now.forms (c.args.from + 1) c.len-end.result c.len-end.ensures.count in
    let steps = rw whole at c.in_ok-check_steps-in-Memory.ensures.ok in
    λ e. (
      record { first = c.args.from; verdict = c.in_ok-header.header.verdict; steps = steps.0 },
      certificate_of _ c.args.number all c.args.from _ here (as_version c.in_ok-header.header.version) c.in_ok-header.ensures.of_problem c.in_ok-header.header.verdict (rw c.form.ensures.bytes at c.in_ok-header.ensures.ok) steps.0 steps.1,
    )

pub returns-in_default : goal.returns-in_default
returns-in_default c =
    let bytes = c.args.forms.now.bytes in
    let all = as_list c.args.forms.now.forms in
    let from = c.args.from in
    let header = c.form.result.form in
    let here = form_at-list c.args.forms.now.forms from header c.form.ensures.form in
    let whole = between_end c.args.forms.now.forms (c.args.from + 1) c.len-end.result c.len-end.ensures.count in
    record {
      ok = tt;
      fault = IfSome_then (as_fault c.in-Err.fault) (rw whole at c.in-Err.ensures.fault)
          (step_is_bad bytes c.args.number all from header here (as_version c.in_ok-header.header.version) c.in_ok-header.ensures.of_problem c.in_ok-header.header.verdict (rw c.form.ensures.bytes at c.in_ok-header.ensures.ok));
      memory = λ e. let is : c.in-Err.fault ≡ Memory = cc in absurd (c.in_default.not-Memory is);
    }

pub returns-clause-ok : goal.returns-clause-ok
returns-clause-ok c =
    let all = as_list c.args.forms.now.forms in
    let here = form_at-list c.args.forms.now.forms c.args.from c.form.result.form c.form.ensures.form in
    let whole = between_end c.args.forms.now.forms (c.args.from + 1) c.len-end.result c.len-end.ensures.count in
    certificate_of _ c.args.number all c.args.from _ here (as_version c.in_ok-header.header.version) c.in_ok-header.ensures.of_problem c.in_ok-header.header.verdict
    (rw c.form.ensures.bytes at c.in_ok-header.ensures.ok) (map as_step c.in-Ok.steps.items) (rw whole at c.in-Ok.ensures.ok)

pub steps-requires : goal.steps-requires
steps-requires c =
    let of = c.len-end.ensures in
    let long = form_count-bytes c.args.forms.now.bytes c.args.forms.now.forms of.lawful in
    record { order = omega (arith, c.if-from-end.false); within = omega (arith, of.count); small = omega (arith, long, of.few, of.count) }

pub check_steps-requires : goal.check_steps-requires
check_steps-requires c =
    let of = c.len-end.ensures in
    let long = form_count-bytes c.args.forms.now.bytes c.args.forms.now.forms of.lawful in
    record { order = omega (arith, c.if-from-end.false); within = omega (arith, of.count); small = omega (arith, long, of.few, of.count) }

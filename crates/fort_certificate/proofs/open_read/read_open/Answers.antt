use Rattle.std.proofs.Common.{◌≡◌, ◌+◌, ◌≤◌, length, drop, map, arith}
use Rattle.std.proofs.lemmas.Option.{IfSome_then}
use Rattle.std.proofs.lemmas.Result.{err_from_is_err_and}
use Rattle.fort_grammar.specs.Declarations.{as_list}
use Rattle.fort_certificate_theory.specs.OpenForms.{step_version}
use Rattle.fort_certificate_theory.specs.OpenFaults.{IsBadOpenHeader, IsFirstOpenFault}
use Rattle.fort_steps.specs.OpenView.{as_claim, as_node}
use Rattle.fort_steps.specs.StepView.{as_step}
use Rattle.fort_certificate.specs.declared.fault.CertificateFault.TheVariants.{Memory}
use Rattle.fort_certificate.specs.Checking.{HasBadStep, between}
use Rattle.fort_certificate.specs.Faults.{as_fault}
use Rattle.fort_certificate.specs.NodeChecking.{HasBadNode}
use Rattle.fort_certificate.proofs.FaultLaws.{fault_then, fault_some}
use Rattle.fort_certificate.proofs.OpenReadLaws.{no_open_header, open_header_bad, open_step_bad, open_node_bad, open_certificate_of}
use Rattle.fort_certificate.proofs.StepsLaws.{form_at-list, form_count-list, form_count-bytes}
use Rattle.fort_certificate.proofs.open_read.read_open.Goals as goal

pub returns-then-from-len-clause-fault : goal.returns-then-from-len-clause-fault
returns-then-from-len-clause-fault c =
    no_open_header c.args.forms.now.bytes (as_list c.args.forms.now.forms) c.args.from
    (omega (arith, c.if-from-len.true, c.len.ensures.count, form_count-list c.args.forms.now.forms))

pub returns-in_err-claim-clause-fault : goal.returns-in_err-claim-clause-fault
returns-in_err-claim-clause-fault c =
    let p = err_from_is_err_and c.from_residual.result c.from_residual.ensures.1 in
    let bytes = c.args.forms.now.bytes in
    let all = as_list c.args.forms.now.forms in
    let from = c.args.from in
    let header = c.form.result.form in
    let here = form_at-list c.args.forms.now.forms from header c.form.ensures.form in
    rw (p.1, p.2) (fault_some (IsFirstOpenFault bytes all from) c.in_err-claim.field-0.0
    (fault_then (IsBadOpenHeader bytes from header) (IsFirstOpenFault bytes all from) c.in_err-claim.field-0.0
    (open_header_bad bytes all from header here) (rw c.form.ensures.bytes at c.in_err-claim.ensures.fault)))

pub steps-requires-clause-small : goal.steps-requires-clause-small
steps-requires-clause-small c =
    let long = form_count-bytes c.args.forms.now.bytes c.args.forms.now.forms c.len.ensures.lawful in
    omega (arith, c.first_node-end.ensures.within, long, c.len.ensures.few)

pub check_steps-requires-clause-small : goal.check_steps-requires-clause-small
check_steps-requires-clause-small c =
    let long = form_count-bytes c.args.forms.now.bytes c.args.forms.now.forms c.len.ensures.lawful in
    omega (arith, c.first_node-end.ensures.within, long, c.len.ensures.few)

pub returns-in_err-check_steps-in-Memory-clause-fault : goal.returns-in_err-check_steps-in-Memory-clause-fault
returns-in_err-check_steps-in-Memory-clause-fault c =
    let p = err_from_is_err_and c.from_residual-in_err-check_steps-in-Memory.result c.from_residual-in_err-check_steps-in-Memory.ensures.1 in
    let bytes = c.args.forms.now.bytes in
    let all = as_list c.args.forms.now.forms in
    let from = c.args.from in
    let header = c.form.result.form in
    let here = form_at-list c.args.forms.now.forms from header c.form.ensures.form in
    let claim = as_claim c.in_ok-claim.claim in
    let headed = rw c.form.ensures.bytes at c.in_ok-claim.ensures.ok in
    let end = c.first_node-end.result in
    let node = c.first_node-end.ensures in
    let within : end ≤ length all = omega (arith, node.within, form_count-list c.args.forms.now.forms) in
    rw (p.1, p.2) (fault_some (IsFirstOpenFault bytes all from) c.in_err-check_steps-in-Memory.field-0.0
    (fault_then (HasBadStep bytes step_version (from + 1) (between (from + 1) end all)) (IsFirstOpenFault bytes all from) c.in_err-check_steps-in-Memory.field-0.0
    (open_step_bad bytes all from header here claim headed end node.after within node.none) c.in_err-check_steps-in-Memory.ensures.fault))

pub returns-in_err-check_nodes-in-Memory-clause-fault : goal.returns-in_err-check_nodes-in-Memory-clause-fault
returns-in_err-check_nodes-in-Memory-clause-fault c =
    let p = err_from_is_err_and c.from_residual-in_err-check_nodes-in-Memory.result c.from_residual-in_err-check_nodes-in-Memory.ensures.1 in
    let bytes = c.args.forms.now.bytes in
    let all = as_list c.args.forms.now.forms in
    let from = c.args.from in
    let header = c.form.result.form in
    let here = form_at-list c.args.forms.now.forms from header c.form.ensures.form in
    let claim = as_claim c.in_ok-claim.claim in
    let headed = rw c.form.ensures.bytes at c.in_ok-claim.ensures.ok in
    let end = c.first_node-end.result in
    let node = c.first_node-end.ensures in
    let within : end ≤ length all = omega (arith, node.within, form_count-list c.args.forms.now.forms) in
    rw (p.1, p.2) (fault_some (IsFirstOpenFault bytes all from) c.in_err-check_nodes-in-Memory.field-0.0
    (fault_then (HasBadNode bytes end (drop end all)) (IsFirstOpenFault bytes all from) c.in_err-check_nodes-in-Memory.field-0.0
    (open_node_bad bytes all from header here claim headed end node.after within c.in_ok-check_steps-in-Memory.ensures.ok node.headed) c.in_err-check_nodes-in-Memory.ensures.fault))

pub returns-in_err-check_nodes-clause-fault : goal.returns-in_err-check_nodes-clause-fault
returns-in_err-check_nodes-clause-fault c =
    let p = err_from_is_err_and c.from_residual-in_err-check_nodes.result c.from_residual-in_err-check_nodes.ensures.1 in
    let bytes = c.args.forms.now.bytes in
    let all = as_list c.args.forms.now.forms in
    let from = c.args.from in
    let header = c.form.result.form in
    let here = form_at-list c.args.forms.now.forms from header c.form.ensures.form in
    let claim = as_claim c.in_ok-claim.claim in
    let headed = rw c.form.ensures.bytes at c.in_ok-claim.ensures.ok in
    let end = c.first_node-end.result in
    let node = c.first_node-end.ensures in
    let within : end ≤ length all = omega (arith, node.within, form_count-list c.args.forms.now.forms) in
    rw (p.1, p.2) (fault_some (IsFirstOpenFault bytes all from) c.in_err-check_nodes.field-0.0
    (fault_then (HasBadNode bytes end (drop end all)) (IsFirstOpenFault bytes all from) c.in_err-check_nodes.field-0.0
    (open_node_bad bytes all from header here claim headed end node.after within (map as_step c.in-Ok.steps.items, c.in-Ok.ensures.ok) node.headed) c.in_err-check_nodes.ensures.fault))

pub returns-in-Memory-clause-memory : goal.returns-in-Memory-clause-memory
returns-in-Memory-clause-memory c =
    let bytes = c.args.forms.now.bytes in
    let all = as_list c.args.forms.now.forms in
    let from = c.args.from in
    let header = c.form.result.form in
    let here = form_at-list c.args.forms.now.forms from header c.form.ensures.form in
    let claim = as_claim c.in_ok-claim.claim in
    let headed = rw c.form.ensures.bytes at c.in_ok-claim.ensures.ok in
    let end = c.first_node-end.result in
    let node = c.first_node-end.ensures in
    let within : end ≤ length all = omega (arith, node.within, form_count-list c.args.forms.now.forms) in
    let steps = c.in_ok-check_steps-in-Memory.ensures.ok in
    let nodes = c.in_ok-check_nodes-in-Memory.ensures.ok in
    λ e. (
      record { first = from; claim = claim; steps = steps.0; nodes = nodes.0 },
      open_certificate_of bytes all from header here claim headed end node.after within steps.0 nodes.0 steps.1 nodes.1,
    )

pub returns-in_default : goal.returns-in_default
returns-in_default c =
    let bytes = c.args.forms.now.bytes in
    let all = as_list c.args.forms.now.forms in
    let from = c.args.from in
    let header = c.form.result.form in
    let here = form_at-list c.args.forms.now.forms from header c.form.ensures.form in
    let claim = as_claim c.in_ok-claim.claim in
    let headed = rw c.form.ensures.bytes at c.in_ok-claim.ensures.ok in
    let end = c.first_node-end.result in
    let node = c.first_node-end.ensures in
    let within : end ≤ length all = omega (arith, node.within, form_count-list c.args.forms.now.forms) in
    record {
      ok = tt;
      fault = IfSome_then (as_fault c.in-Err.fault) c.in-Err.ensures.fault
          (open_step_bad bytes all from header here claim headed end node.after within node.none);
      memory = λ e. let is : c.in-Err.fault ≡ Memory = cc in absurd (c.in_default.not-Memory is);
    }

pub returns-in_err-nodes-clause-memory : goal.returns-in_err-nodes-clause-memory
returns-in_err-nodes-clause-memory c =
    let bytes = c.args.forms.now.bytes in
    let all = as_list c.args.forms.now.forms in
    let from = c.args.from in
    let header = c.form.result.form in
    let here = form_at-list c.args.forms.now.forms from header c.form.ensures.form in
    let claim = as_claim c.in_ok-claim.claim in
    let headed = rw c.form.ensures.bytes at c.in_ok-claim.ensures.ok in
    let end = c.first_node-end.result in
    let node = c.first_node-end.ensures in
    let within : end ≤ length all = omega (arith, node.within, form_count-list c.args.forms.now.forms) in
    let steps = map as_step c.in-Ok.steps.items in
    let nodes = c.in_ok-check_nodes.ensures.ok in
    λ e. (
      record { first = from; claim = claim; steps = steps; nodes = nodes.0 },
      open_certificate_of bytes all from header here claim headed end node.after within steps nodes.0 c.in-Ok.ensures.ok nodes.1,
    )

pub returns-clause-ok : goal.returns-clause-ok
returns-clause-ok c =
    let bytes = c.args.forms.now.bytes in
    let all = as_list c.args.forms.now.forms in
    let from = c.args.from in
    let header = c.form.result.form in
    let here = form_at-list c.args.forms.now.forms from header c.form.ensures.form in
    let claim = as_claim c.in_ok-claim.claim in
    let headed = rw c.form.ensures.bytes at c.in_ok-claim.ensures.ok in
    let end = c.first_node-end.result in
    let node = c.first_node-end.ensures in
    let within : end ≤ length all = omega (arith, node.within, form_count-list c.args.forms.now.forms) in
    open_certificate_of bytes all from header here claim headed end node.after within (map as_step c.in-Ok.steps.items)
    (map as_node c.in_ok-nodes.field-0.items) c.in-Ok.ensures.ok c.in_ok-nodes.ensures

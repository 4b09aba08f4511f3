use Rattle.std.proofs.Common.{◌≡◌, drop, subst, arith}
use Rattle.fort_grammar.specs.Declarations.{as_list}
use Rattle.fort_certificate_theory.specs.CertificateFaults.{fault_of}
use Rattle.fort_certificate_theory.specs.OpenForms.{IsNodeForm}
use Rattle.fort_certificate_theory.specs.OpenFaults.{IsBadNode}
use Rattle.fort_certificate.specs.NodeChecking.{HasBadNode}
use Rattle.fort_certificate.specs.ReadView.{as_kind}
use Rattle.fort_certificate.proofs.FaultLaws.{fault_is}
use Rattle.fort_certificate.proofs.StepsLaws.{form_at-list, form_count-bytes, AreSomeUpTo, some_more, first_bad, between_end}
use Rattle.fort_certificate.proofs.node.check_nodes.Goals as goal

pub overflow_cast-i : goal.overflow_cast-i
overflow_cast-i c =
    let of = c.len-i-end.ensures in
    omega (arith, form_count-bytes c.args.forms.now.bytes c.args.forms.now.forms of.lawful, of.few, of.count, c.nodes-test.true)

pub returns-in-Err-clause-fault : goal.returns-in-Err-clause-fault
returns-in-Err-clause-fault c =
    let bytes = c.args.forms.now.bytes in
    let fs = c.args.forms.now.forms in
    let all = as_list fs in
    let end = c.len-i-end.result in
    let whole = between_end fs c.args.from end c.len-i-end.ensures.count in
    let here = form_at-list fs c.nodes.i c.form.result.form c.form.ensures.form in
    fault_is (HasBadNode bytes c.args.from (drop c.args.from all)) c.fault_at.result _ c.fault_at.ensures
    (rw whole at (first_bad (IsNodeForm bytes) all c.args.from c.nodes.i c.form.result.form c.nodes.invariant c.nodes.auto.i here (IsBadNode bytes) end
    (fault_of c.nodes.i (as_kind c.in-Err.wrong)) c.nodes-test.true (rw c.form.ensures.bytes at (c.in-Err.ensures.err c.nodes.i))))

pub nodes-preserved : goal.nodes-preserved
nodes-preserved c =
    let here = form_at-list c.args.forms.now.forms c.nodes.i c.form.result.form c.form.ensures.form in
    some_more (IsNodeForm c.args.forms.now.bytes) (as_list c.args.forms.now.forms) c.args.from c.nodes.i c.form.result.form c.nodes.invariant
    c.nodes.auto.i here (rw c.form.ensures.bytes at c.in-Ok.ensures.ok)

pub returns-clause-ok : goal.returns-clause-ok
returns-clause-ok c =
    let fs = c.args.forms.now.forms in
    let end = c.len-i-end.result in
    let e : c.nodes.i ≡ end = omega (arith, c.nodes-test.false, c.nodes.auto.i-end (omega (arith, c.requires, c.len-i-end.ensures.count))) in
    rw (between_end fs c.args.from end c.len-i-end.ensures.count) at
    (subst (λ i. AreSomeUpTo (IsNodeForm c.args.forms.now.bytes) (as_list fs) c.args.from i) e c.nodes.invariant)

use Rattle.std.proofs.Common.{[], Some}
use Rattle.std.proofs.lemmas.Option.{IfSome_then}
use Rattle.std.proofs.lemmas.Result.{err_from_is_err_and}
use Rattle.fort_certificate_theory.specs.CertificateFaults.{NumberSlot, CountSlot}
use Rattle.fort_certificate.specs.ReadView.{as_wrong}
use Rattle.fort_certificate.proofs.BuildLaws.{counts_made}
use Rattle.fort_certificate.proofs.WrongLaws.{slot_absent, slot_bad, slot_fits}
use Rattle.fort_certificate.proofs.build.counts_step.Goals as goal

pub returns-clause-ok : goal.returns-clause-ok
returns-clause-ok c = λ version f head allowed is headed.
    counts_made c.args.elements.now.bytes f head c.in-Some.part.form c.args.elements.now.forms c.in-Some.rest.forms c.in-Some.ensures.some is version c.in_ok-number_in.field-0 _
    (rw c.in-Some.ensures.bytes.0 at c.in_ok-number_in.ensures.ok) (rw c.in-Some.ensures.bytes.1 at c.in_ok-counts.ensures.ok) headed

pub returns-in_default-clause-wrong : goal.returns-in_default-clause-wrong
returns-in_default-clause-wrong c = λ version. slot_absent c.args.elements.now.bytes NumberSlot [] (Some CountSlot) c.args.elements.now.forms c.in_default.ensures.none

pub returns-in_err-number_in-clause-wrong : goal.returns-in_err-number_in-clause-wrong
returns-in_err-number_in-clause-wrong c =
    let p = err_from_is_err_and c.from_residual.result c.from_residual.ensures.1 in
    rw (p.1, p.2) (λ version. slot_bad c.args.elements.now.bytes NumberSlot [] (Some CountSlot) c.args.elements.now.forms c.in-Some.rest.forms c.in-Some.part.form
    c.in-Some.ensures.some _ (rw c.in-Some.ensures.bytes.0 at c.in_err-number_in.ensures.err))

pub returns-in_err-counts-clause-wrong : goal.returns-in_err-counts-clause-wrong
returns-in_err-counts-clause-wrong c =
    let p = err_from_is_err_and c.from_residual-in_err-counts.result c.from_residual-in_err-counts.ensures.1 in
    rw (p.1, p.2) (IfSome_then (as_wrong c.in_err-counts.field-0.0) (rw c.in-Some.ensures.bytes.1 at c.in_err-counts.ensures.wrong)
    (λ kind bad version. slot_fits c.args.elements.now.bytes NumberSlot [] (Some CountSlot) c.args.elements.now.forms c.in-Some.rest.forms c.in-Some.part.form
    c.in-Some.ensures.some kind (_, rw c.in-Some.ensures.bytes.0 at c.in_ok-number_in.ensures.ok) bad))

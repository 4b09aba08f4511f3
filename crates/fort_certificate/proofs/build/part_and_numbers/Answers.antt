use Rattle.std.proofs.Common.{[], Some}
use Rattle.std.proofs.lemmas.Option.{IfSome_then}
use Rattle.std.proofs.lemmas.Result.{err_from_is_err_and}
use Rattle.fort_certificate_theory.specs.CertificateFaults.{NumberSlot}
use Rattle.fort_certificate.specs.ReadView.{as_wrong}
use Rattle.fort_certificate.proofs.WrongLaws.{slot_absent, slot_bad, slot_fits}
use Rattle.fort_certificate.proofs.build.part_and_numbers.Goals as goal

pub returns-clause-ok : goal.returns-clause-ok
returns-clause-ok c = (
  c.in-Some.part.form,
  c.in-Some.rest.forms,
  c.in-Some.ensures.some,
  rw c.in-Some.ensures.bytes.0 at c.in_ok-number_in.ensures.ok,
  rw c.in-Some.ensures.bytes.1 at c.in_ok-numbers.ensures.ok,
)

pub returns-in_default-clause-wrong : goal.returns-in_default-clause-wrong
returns-in_default-clause-wrong c = slot_absent c.args.elements.now.bytes NumberSlot [] (Some NumberSlot) c.args.elements.now.forms c.in_default.ensures.none

pub returns-in_err-number_in-clause-wrong : goal.returns-in_err-number_in-clause-wrong
returns-in_err-number_in-clause-wrong c =
    let p = err_from_is_err_and c.from_residual.result c.from_residual.ensures.1 in
    rw (p.1, p.2) (slot_bad c.args.elements.now.bytes NumberSlot [] (Some NumberSlot) c.args.elements.now.forms c.in-Some.rest.forms c.in-Some.part.form
    c.in-Some.ensures.some _ (rw c.in-Some.ensures.bytes.0 at c.in_err-number_in.ensures.err))

pub returns-in_err-numbers-clause-wrong : goal.returns-in_err-numbers-clause-wrong
returns-in_err-numbers-clause-wrong c =
    let p = err_from_is_err_and c.from_residual-in_err-numbers.result c.from_residual-in_err-numbers.ensures.1 in
    rw (p.1, p.2) (IfSome_then (as_wrong c.in_err-numbers.field-0.0) (rw c.in-Some.ensures.bytes.1 at c.in_err-numbers.ensures.wrong)
    (λ kind bad. slot_fits c.args.elements.now.bytes NumberSlot [] (Some NumberSlot) c.args.elements.now.forms c.in-Some.rest.forms c.in-Some.part.form
    c.in-Some.ensures.some kind (_, rw c.in-Some.ensures.bytes.0 at c.in_ok-number_in.ensures.ok) bad))

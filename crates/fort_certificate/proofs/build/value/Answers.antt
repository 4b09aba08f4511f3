use Rattle.std.proofs.Common.{◌≡◌, false, true, [], ◌∷◌, None, ◌∙◌}
use Rattle.std.proofs.lemmas.Result.{err_from_is_err_and}
use Rattle.fort_certificate_theory.specs.CertificateFaults.{AsForm, NumberSlot, VerdictSlot, NoVerdict}
use Rattle.fort_certificate.proofs.BuildLaws.{value_made}
use Rattle.fort_certificate.proofs.WrongLaws.{slot_absent, slot_bad, slot_fits, some_extra}
use Rattle.fort_certificate.proofs.build.value.Goals as goal

pub returns-clause-ok : goal.returns-clause-ok
returns-clause-ok c = λ version f head allowed is headed.
    let bytes = c.args.elements.now.bytes in
    let forms = c.args.elements.now.forms in
    let rest = c.in-Some.rest.forms in
    let behind = c.in-Some-split_first.behind.forms in
    value_made bytes f head c.in-Some.part.form forms rest c.in-Some.ensures.some is c.in-Some-split_first.last.form behind
    c.in-Some-split_first.ensures.some version _ c.in-Some-verdict_in.verdict (c.is_empty.ensures.0 c.if-not-is_empty.false)
    (rw c.in-Some.ensures.bytes.0 at c.in_ok-number.ensures.ok)
    (rw (c.in-Some-split_first.ensures.bytes.0 ∙ c.in-Some.ensures.bytes.1) at c.in-Some-verdict_in.ensures.some) headed

pub returns-in_default-clause-wrong : goal.returns-in_default-clause-wrong
returns-in_default-clause-wrong c = λ version.
    slot_absent c.args.elements.now.bytes NumberSlot (VerdictSlot ∷ []) None c.args.elements.now.forms c.in_default.ensures.none

pub returns-in_err-number-clause-wrong : goal.returns-in_err-number-clause-wrong
returns-in_err-number-clause-wrong c =
    let p = err_from_is_err_and c.from_residual.result c.from_residual.ensures.1 in
    rw (p.1, p.2) (λ version. slot_bad c.args.elements.now.bytes NumberSlot (VerdictSlot ∷ []) None c.args.elements.now.forms c.in-Some.rest.forms
    c.in-Some.part.form c.in-Some.ensures.some _ (rw c.in-Some.ensures.bytes.0 at c.in_err-number.ensures.err))

-- the number fits
pub returns-in_default-split_first-clause-wrong : goal.returns-in_default-split_first-clause-wrong
returns-in_default-split_first-clause-wrong c = λ version.
    slot_fits c.args.elements.now.bytes NumberSlot (VerdictSlot ∷ []) None c.args.elements.now.forms c.in-Some.rest.forms c.in-Some.part.form
    c.in-Some.ensures.some AsForm (_, rw c.in-Some.ensures.bytes.0 at c.in_ok-number.ensures.ok)
    (slot_absent c.args.elements.now.bytes VerdictSlot [] None c.in-Some.rest.forms c.in_default-split_first.ensures.none)

pub returns-in_default-verdict_in-clause-wrong : goal.returns-in_default-verdict_in-clause-wrong
returns-in_default-verdict_in-clause-wrong c = λ version.
    slot_fits c.args.elements.now.bytes NumberSlot (VerdictSlot ∷ []) None c.args.elements.now.forms c.in-Some.rest.forms c.in-Some.part.form
    c.in-Some.ensures.some AsForm (_, rw c.in-Some.ensures.bytes.0 at c.in_ok-number.ensures.ok)
    (slot_bad c.args.elements.now.bytes VerdictSlot [] None c.in-Some.rest.forms c.in-Some-split_first.behind.forms c.in-Some-split_first.last.form
    c.in-Some-split_first.ensures.some AsForm
    (NoVerdict (rw (c.in-Some-split_first.ensures.bytes.0 ∙ c.in-Some.ensures.bytes.1) at c.in_default-verdict_in.ensures.none)))

pub returns-then-not-is_empty-clause-wrong : goal.returns-then-not-is_empty-clause-wrong
returns-then-not-is_empty-clause-wrong c = λ version.
    slot_fits c.args.elements.now.bytes NumberSlot (VerdictSlot ∷ []) None c.args.elements.now.forms c.in-Some.rest.forms c.in-Some.part.form
    c.in-Some.ensures.some AsForm (_, rw c.in-Some.ensures.bytes.0 at c.in_ok-number.ensures.ok)
    (slot_fits c.args.elements.now.bytes VerdictSlot [] None c.in-Some.rest.forms c.in-Some-split_first.behind.forms c.in-Some-split_first.last.form
    c.in-Some-split_first.ensures.some AsForm
    (_, rw (c.in-Some-split_first.ensures.bytes.0 ∙ c.in-Some.ensures.bytes.1) at c.in-Some-verdict_in.ensures.some)
    (some_extra c.args.elements.now.bytes c.in-Some-split_first.behind.forms
    (λ none. let wrong : false ≡ true = c.if-not-is_empty.ensures.1 none in cc)))

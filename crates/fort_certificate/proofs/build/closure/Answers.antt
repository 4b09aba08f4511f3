use Rattle.std.proofs.Common.{true, false, [], ◌∷◌, Some, sym, ◌∙◌}
use Rattle.std.proofs.lemmas.Option.{IfSome_then}
use Rattle.std.proofs.lemmas.Result.{err_from_is_err_and}
use Rattle.fort_certificate_theory.specs.CertificateFaults.{AsForm, WhichSlot, NumberSlot, PairSlot, index_slots, NoWhich}
use Rattle.fort_certificate.specs.VersionView.{as_version}
use Rattle.fort_certificate.specs.ReadView.{as_kind, as_wrong}
use Rattle.fort_certificate.proofs.BuildLaws.{closure_made, indexed_made}
use Rattle.fort_certificate.proofs.WrongLaws.{slot_absent, slot_bad, slot_fits, closure_bad}
use Rattle.fort_certificate.proofs.build.closure.Goals as goal

pub returns-then-not-tells_index-clause-ok : goal.returns-then-not-tells_index-clause-ok
returns-then-not-tells_index-clause-ok c = λ f head allowed is headed.
    closure_made c.args.elements.now.bytes f head c.in-Some.kind.form c.args.elements.now.forms c.in-Some.rest.forms c.in-Some.ensures.some is
    (as_version c.args.version) _ _ (sym c.tells_index.ensures ∙ c.if-not-tells_index.true) (rw c.in-Some.ensures.bytes.0 at c.in-Some-which_in.ensures.some)
    (rw c.in-Some.ensures.bytes.1 at c.in_ok-entries.ensures.ok) headed

pub returns-clause-ok : goal.returns-clause-ok
returns-clause-ok c = λ f head allowed is headed.
    indexed_made c.args.elements.now.bytes f head c.in-Some.kind.form c.args.elements.now.forms c.in-Some.rest.forms c.in-Some.ensures.some is
    c.in-Some-split_first.system.form c.in-Some-split_first.rest.forms c.in-Some-split_first.ensures.some
    (as_version c.args.version) _ _ _ (sym c.tells_index.ensures ∙ c.if-not-tells_index.false)
    (rw c.in-Some.ensures.bytes.0 at c.in-Some-which_in.ensures.some)
    (rw (c.in-Some-split_first.ensures.bytes.0 ∙ c.in-Some.ensures.bytes.1) at c.in_ok-number_in.ensures.ok)
    (rw (c.in-Some-split_first.ensures.bytes.1 ∙ c.in-Some.ensures.bytes.1) at c.in_ok-entries-2.ensures.ok) headed

pub returns-in_default-clause-wrong : goal.returns-in_default-clause-wrong
returns-in_default-clause-wrong c =
    slot_absent c.args.elements.now.bytes WhichSlot (index_slots (as_version c.args.version)) (Some PairSlot) c.args.elements.now.forms
    c.in_default.ensures.none

pub returns-in_default-which_in-clause-wrong : goal.returns-in_default-which_in-clause-wrong
returns-in_default-which_in-clause-wrong c =
    slot_bad c.args.elements.now.bytes WhichSlot (index_slots (as_version c.args.version)) (Some PairSlot) c.args.elements.now.forms
    c.in-Some.rest.forms c.in-Some.kind.form c.in-Some.ensures.some AsForm
    (NoWhich (rw c.in-Some.ensures.bytes.0 at c.in_default-which_in.ensures.none))

pub returns-in_err-entries-clause-wrong : goal.returns-in_err-entries-clause-wrong
returns-in_err-entries-clause-wrong c =
    let p = err_from_is_err_and c.from_residual.result c.from_residual.ensures.1 in
    rw (p.1, p.2) (IfSome_then (as_wrong c.in_err-entries.field-0.0) (rw c.in-Some.ensures.bytes.1 at c.in_err-entries.ensures.wrong)
    (λ kind bad. closure_bad c.args.elements.now.bytes (as_version c.args.version) false c.args.elements.now.forms kind
    (sym c.tells_index.ensures ∙ c.if-not-tells_index.true)
    (slot_fits c.args.elements.now.bytes WhichSlot [] (Some PairSlot) c.args.elements.now.forms c.in-Some.rest.forms c.in-Some.kind.form
    c.in-Some.ensures.some kind (_, rw c.in-Some.ensures.bytes.0 at c.in-Some-which_in.ensures.some) bad)))

-- the index is told
pub returns-in_default-split_first-clause-wrong : goal.returns-in_default-split_first-clause-wrong
returns-in_default-split_first-clause-wrong c =
    closure_bad c.args.elements.now.bytes (as_version c.args.version) true c.args.elements.now.forms AsForm
    (sym c.tells_index.ensures ∙ c.if-not-tells_index.false)
    (slot_fits c.args.elements.now.bytes WhichSlot (NumberSlot ∷ []) (Some PairSlot) c.args.elements.now.forms c.in-Some.rest.forms c.in-Some.kind.form
    c.in-Some.ensures.some AsForm (_, rw c.in-Some.ensures.bytes.0 at c.in-Some-which_in.ensures.some)
    (slot_absent c.args.elements.now.bytes NumberSlot [] (Some PairSlot) c.in-Some.rest.forms c.in_default-split_first.ensures.none))

pub returns-in_err-number_in-clause-wrong : goal.returns-in_err-number_in-clause-wrong
returns-in_err-number_in-clause-wrong c =
    let p = err_from_is_err_and c.from_residual-in_err-number_in.result c.from_residual-in_err-number_in.ensures.1 in
    rw (p.1, p.2) (closure_bad c.args.elements.now.bytes (as_version c.args.version) true c.args.elements.now.forms (as_kind c.in_err-number_in.field-0.0)
    (sym c.tells_index.ensures ∙ c.if-not-tells_index.false)
    (slot_fits c.args.elements.now.bytes WhichSlot (NumberSlot ∷ []) (Some PairSlot) c.args.elements.now.forms c.in-Some.rest.forms c.in-Some.kind.form
    c.in-Some.ensures.some _ (_, rw c.in-Some.ensures.bytes.0 at c.in-Some-which_in.ensures.some)
    (slot_bad c.args.elements.now.bytes NumberSlot [] (Some PairSlot) c.in-Some.rest.forms c.in-Some-split_first.rest.forms c.in-Some-split_first.system.form
    c.in-Some-split_first.ensures.some _ (rw (c.in-Some-split_first.ensures.bytes.0 ∙ c.in-Some.ensures.bytes.1) at c.in_err-number_in.ensures.err))))

pub returns-in_err-entries-2-clause-wrong : goal.returns-in_err-entries-2-clause-wrong
returns-in_err-entries-2-clause-wrong c =
    let p = err_from_is_err_and c.from_residual-in_err-entries-2.result c.from_residual-in_err-entries-2.ensures.1 in
    rw (p.1, p.2) (IfSome_then (as_wrong c.in_err-entries-2.field-0.0)
    (rw (c.in-Some-split_first.ensures.bytes.1 ∙ c.in-Some.ensures.bytes.1) at c.in_err-entries-2.ensures.wrong)
    (λ kind bad. closure_bad c.args.elements.now.bytes (as_version c.args.version) true c.args.elements.now.forms kind
    (sym c.tells_index.ensures ∙ c.if-not-tells_index.false)
    (slot_fits c.args.elements.now.bytes WhichSlot (NumberSlot ∷ []) (Some PairSlot) c.args.elements.now.forms c.in-Some.rest.forms c.in-Some.kind.form
    c.in-Some.ensures.some kind (_, rw c.in-Some.ensures.bytes.0 at c.in-Some-which_in.ensures.some)
    (slot_fits c.args.elements.now.bytes NumberSlot [] (Some PairSlot) c.in-Some.rest.forms c.in-Some-split_first.rest.forms c.in-Some-split_first.system.form
    c.in-Some-split_first.ensures.some kind (_, rw (c.in-Some-split_first.ensures.bytes.0 ∙ c.in-Some.ensures.bytes.1) at c.in_ok-number_in.ensures.ok) bad))))

use Rattle.std.proofs.Common.{◌≤◌, drop, length, ap, sym, ◌∙◌, arith}
use Rattle.std.proofs.lemmas.List.{length-map}
use Rattle.std.proofs.lemmas.Result.{err_from_is_err_and}
use Rattle.fort_certificate.specs.ReadView.{as_slot}
use Rattle.fort_certificate.proofs.SlotLaws.{passed_extra, passed_bad, passed_more, passed_short, passed_all}
use Rattle.fort_certificate.proofs.check.check_elements.Goals as goal

pub returns-in_default-slot_of-clause-err : goal.returns-in_default-slot_of-clause-err
returns-in_default-slot_of-clause-err c =
    passed_extra _ _ _ _ c.places.rest.forms c.places.place c.in-Some-split_first.form.form c.in-Some-split_first.behind.forms c.places.invariant.0
    c.in-Some-split_first.ensures.some (sym c.in_default-slot_of.ensures)

pub returns-in_err-check_slot-clause-err : goal.returns-in_err-check_slot-clause-err
returns-in_err-check_slot-clause-err c =
    let p = err_from_is_err_and c.from_residual.result c.from_residual.ensures.1 in
    rw (p.1, p.2) (passed_bad _ _ _ _ c.places.rest.forms c.places.place c.in-Some-split_first.form.form c.in-Some-split_first.behind.forms
    c.places.invariant.0 c.in-Some-split_first.ensures.some _ _ (sym c.in-Some-slot_of.ensures)
    (rw (c.in-Some-split_first.ensures.bytes.0 ∙ c.places.invariant.1) at c.in_err-check_slot.ensures.err))

pub places-preserved : goal.places-preserved
places-preserved c = (
  passed_more _ _ _ _ c.places.rest.forms c.places.place c.in-Some-split_first.form.form c.in-Some-split_first.behind.forms c.places.invariant.0
      c.in-Some-split_first.ensures.some _ (sym c.in-Some-slot_of.ensures)
      (rw (c.in-Some-split_first.ensures.bytes.0 ∙ c.places.invariant.1) at c.in_ok-check_slot.ensures.ok),
  c.in-Some-split_first.ensures.bytes.1 ∙ c.places.invariant.1,
)

pub returns-then-len-first-clause-err : goal.returns-then-len-first-clause-err
returns-then-len-first-clause-err c =
    let long = length-map c.args.first.now as_slot in
    let all = ap (λ fs. length fs) c.in-Some.ensures.some in
    let behind = ap (λ fs. length (drop 1 fs)) c.in-Some.ensures.some in
    let end : length (drop 1 c.args.list.now.forms) ≤ c.places.place = omega (arith, behind, c.places-test.false, c.len-place-end.ensures) in
    passed_short _ _ _ _ c.places.rest.forms c.places.place c.places.invariant.0 end
    (omega (arith, long, all, behind, c.if-len-first.true, c.len.ensures))

pub returns-clause-ok : goal.returns-clause-ok
returns-clause-ok c =
    let long = length-map c.args.first.now as_slot in
    let all = ap (λ fs. length fs) c.in-Some.ensures.some in
    let behind = ap (λ fs. length (drop 1 fs)) c.in-Some.ensures.some in
    let end : length (drop 1 c.args.list.now.forms) ≤ c.places.place = omega (arith, behind, c.places-test.false, c.len-place-end.ensures) in
    passed_all _ _ _ _ c.places.rest.forms c.places.place c.places.invariant.0 end
    (omega (arith, long, all, behind, c.if-len-first.false, c.len.ensures))

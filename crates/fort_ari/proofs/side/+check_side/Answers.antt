use Rattle.std.proofs.Common.{ℕ, ◌∙◌, arith}
use Rattle.std.proofs.lemmas.Option.{IfSome_then}
use Rattle.std.proofs.lemmas.Result.{err_from_is_err_and}
use Rattle.fort_sexpr.proofs.FormLists.{node_count-element}
use Rattle.fort_ari.specs.Faults.{as_fault}
use Rattle.fort_ari.specs.SideForms.{AreRightUpTo}
use Rattle.fort_ari.proofs.Rests.{left_behind, left_at, left_next, left_end}
use Rattle.fort_ari.proofs.SideElements.{right_none, right_application, bad_argument, right_more, right_all}
use Rattle.fort_ari.proofs.side.+check_side.Goals as goal

pub arguments-init : goal.arguments-init
arguments-init t c = (
  λ es is. left_behind _ c.args.form.now.form es c.in-Some.list.forms c.in-Some-split_first.rest.forms c.in-Some-split_first._head.form is
      c.in-Some.ensures.some c.in-Some-split_first.ensures.some (right_none _ _ es),
  c.in-Some-split_first.ensures.bytes.1 ∙ c.in-Some.ensures.bytes,
)

pub check_side-requires : goal.check_side-requires
check_side-requires t c =
    let forms = c.in-Some.list.forms in
    let left = c.arguments.invariant.0 forms c.in-Some.ensures.some in
    let here = left_at _ forms c.arguments.rest.forms left c.in-Some-split_first-2.argument.form _ c.in-Some-split_first-2.ensures.some in
    (omega (arith, c.decreases, node_count-element c.args.form.now.form c.in-Some-split_first-2.argument.form _ _ c.in-Some.ensures.some here), tt)

pub returns-in_err-check_side-clause-fault : goal.returns-in_err-check_side-clause-fault
returns-in_err-check_side-clause-fault t c =
    let forms = c.in-Some.list.forms in
    let left = c.arguments.invariant.0 forms c.in-Some.ensures.some in
    let here = left_at _ forms c.arguments.rest.forms left c.in-Some-split_first-2.argument.form _ c.in-Some-split_first-2.ensures.some in
    let same = c.in-Some-split_first-2.ensures.bytes.0 ∙ c.arguments.invariant.1 in
    let p = err_from_is_err_and c.from_residual-in_err-check_side.result c.from_residual-in_err-check_side.ensures.1 in
    rw (p.1, p.2) (IfSome_then (as_fault c.in_err-check_side.field-0.0) (rw same at c.in_err-check_side.ensures.fault)
    (λ fault bad. bad_argument _ _ _ _ _ _ _ fault c.in-Some.ensures.some c.in_ok-check_head.ensures.ok left.holds here bad))

pub arguments-preserved : goal.arguments-preserved
arguments-preserved t c =
    let bytes = c.args.form.now.bytes in
    let signature = c.args.signature.now in
    let argument = c.in-Some-split_first-2.argument in
    let rest = c.arguments.rest.forms in
    let same = c.in-Some-split_first-2.ensures.bytes.0 ∙ c.arguments.invariant.1 in (
      λ es is. let left = c.arguments.invariant.0 es is in
          let P : ℕ → Type 0 = λ i. AreRightUpTo bytes signature es i in
          left_next P es rest left P argument.form c.in-Some-split_first-2.behind.forms c.in-Some-split_first-2.ensures.some
          (right_more bytes signature es left.place argument.form left.holds
          (left_at P es rest left argument.form _ c.in-Some-split_first-2.ensures.some) (rw same at c.in_ok-check_side.ensures.ok)),
      c.in-Some-split_first-2.ensures.bytes.1 ∙ c.arguments.invariant.1,
    )

pub returns-clause-ok : goal.returns-clause-ok
returns-clause-ok t c =
    let forms = c.in-Some.list.forms in
    let left = c.arguments.invariant.0 forms c.in-Some.ensures.some in
    right_application _ _ _ _ c.in-Some.ensures.some c.in_ok-check_head.ensures.ok
    (right_all _ _ _ left.place left.holds (left_end _ forms c.arguments.rest.forms left c.in_default-split_first-2.ensures.none))

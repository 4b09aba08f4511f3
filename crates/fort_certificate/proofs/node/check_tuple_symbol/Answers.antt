use Rattle.std.proofs.Common.{[], ◌∷◌, ◌++◌, ◌∙◌}
use Rattle.std.proofs.lemmas.Result.{err_from_is_err_and}
use Rattle.fort_certificate_theory.specs.OpenFaults.{NoList}
use Rattle.fort_certificate.specs.ReadView.{as_kind}
use Rattle.fort_certificate.proofs.NodeLaws.{columns_none, columns_more, columns_bad, columns_all}
use Rattle.fort_certificate.proofs.node.check_tuple_symbol.Goals as goal

pub columns-init : goal.columns-init
columns-init c = (([], columns_none c.args.form.now.bytes c.args.form.now.form c.in-Some.list.forms c.in-Some.ensures.some), c.in-Some.ensures.bytes)

pub returns-in_err-symbol_in-clause-err : goal.returns-in_err-symbol_in-clause-err
returns-in_err-symbol_in-clause-err c =
    let p = err_from_is_err_and c.from_residual.result c.from_residual.ensures.1 in
    let i = c.columns.invariant in
    let next = c.in-Some-split_first in
    rw (p.1, p.2) (columns_bad c.args.form.now.bytes c.args.form.now.form c.columns.rest.forms i.0.0 i.0.1 next.column.form next.behind.forms
    (as_kind c.in_err-symbol_in.field-0.0) next.ensures.some (rw (next.ensures.bytes.0 ∙ i.1) at c.in_err-symbol_in.ensures.err))

pub columns-preserved : goal.columns-preserved
columns-preserved c =
    let i = c.columns.invariant in
    let next = c.in-Some-split_first in (
      (
        i.0.0 ++ c.in_ok-symbol_in.field-0 ∷ [],
        columns_more c.args.form.now.bytes c.args.form.now.form c.columns.rest.forms i.0.0 i.0.1 next.column.form next.behind.forms c.in_ok-symbol_in.field-0
            next.ensures.some (rw (next.ensures.bytes.0 ∙ i.1) at c.in_ok-symbol_in.ensures.ok),
      ),
      next.ensures.bytes.1 ∙ i.1,
    )

pub returns-clause-ok : goal.returns-clause-ok
returns-clause-ok c =
    let i = c.columns.invariant in
    (i.0.0, columns_all c.args.form.now.bytes c.args.form.now.form c.columns.rest.forms i.0.0 i.0.1 c.in_default-split_first.ensures.none)

pub returns-in_default-clause-err : goal.returns-in_default-clause-err
returns-in_default-clause-err c = NoList c.in_default.ensures.none

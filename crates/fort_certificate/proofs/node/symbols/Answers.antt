use Rattle.std.proofs.Common.{length, ap, ◌∙◌, arith}
use Rattle.fort_certificate_theory.proofs.NodeForms.{tuple_symbol_not_bad}
use Rattle.fort_certificate.specs.ReadView.{as_kind}
use Rattle.fort_certificate.proofs.NodeLaws.{columns_more, columns_bad}
use Rattle.fort_certificate.proofs.node.symbols.Goals as goal

pub unreachable-requires-in-Err : goal.unreachable-requires-in-Err
unreachable-requires-in-Err c =
    let bytes = c.args.form.now.bytes in
    let f = c.args.form.now.form in
    let i = c.columns.invariant in
    let next = c.in-Some-split_first in
    let kind = as_kind c.in-Err._wrong in
    tuple_symbol_not_bad bytes f c.requires.0 kind c.requires.1
    (columns_bad bytes f c.columns.rest.forms c.columns.symbols.items i.0 next.column.form next.behind.forms kind next.ensures.some
    (rw (next.ensures.bytes.0 ∙ i.1) at c.in-Err.ensures.err))

pub columns-preserved : goal.columns-preserved
columns-preserved c =
    let i = c.columns.invariant in
    let next = c.in-Some-split_first in (
      rw c.push_reserved.ensures.items
          (columns_more c.args.form.now.bytes c.args.form.now.form c.columns.rest.forms c.columns.symbols.items i.0 next.column.form next.behind.forms
          c.in-Ok.symbol next.ensures.some (rw (next.ensures.bytes.0 ∙ i.1) at c.in-Ok.ensures.ok)),
      next.ensures.bytes.1 ∙ i.1,
      omega (arith, i.2, ap (λ fs. length fs) next.ensures.some, c.push_reserved.ensures.len, c.push_reserved.ensures.capacity),
    )

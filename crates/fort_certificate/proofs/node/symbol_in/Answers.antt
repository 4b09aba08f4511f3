use Rattle.std.proofs.Common.{◌≡◌, false, true, refl}
use Rattle.std.proofs.lemmas.Result.{err_from_is_err_and}
use Rattle.fort_certificate.specs.ReadView.{as_kind}
use Rattle.fort_certificate.proofs.NodeLaws.{absent_form, symbol_form, symbol_bad}
use Rattle.fort_certificate.proofs.node.symbol_in.Goals as goal

pub returns-then-is_word-clause-ok : goal.returns-then-is_word-clause-ok
returns-then-is_word-clause-ok c = absent_form c.args.form.now.bytes c.args.form.now.form (c.if-is_word.ensures.0 refl)

pub returns-in_err-number_in-clause-err : goal.returns-in_err-number_in-clause-err
returns-in_err-number_in-clause-err c =
    let p = err_from_is_err_and c.from_residual.result c.from_residual.ensures.1 in
    rw (p.1, p.2) (symbol_bad c.args.form.now.bytes c.args.form.now.form (as_kind c.in_err-number_in.field-0.0)
    (λ h. let wrong : false ≡ true = c.if-is_word.ensures.1 h in cc) c.in_err-number_in.ensures.err)

pub returns-clause-ok : goal.returns-clause-ok
returns-clause-ok c = symbol_form c.args.form.now.bytes c.args.form.now.form c.in_ok-number_in.field-0 c.in_ok-number_in.ensures.ok

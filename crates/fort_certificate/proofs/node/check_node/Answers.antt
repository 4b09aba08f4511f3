use Rattle.std.proofs.Common.{◌≡◌, ℕ, List, [], Some, drop, false, true, refl, ◌∙◌, subst}
use Rattle.std.proofs.lemmas.Result.{IfOk-weaker, IfErr-weaker, err_from_is_err_and}
use Rattle.fort_grammar.specs.Forms.{Form}
use Rattle.fort_certificate_theory.specs.CertificateFaults.{NumberSlot}
use Rattle.fort_certificate_theory.specs.FilledSlots.{FitAll}
use Rattle.fort_certificate_theory.specs.OpenFaults.{NoNode}
use Rattle.fort_certificate.specs.ReadView.{as_kind}
use Rattle.fort_certificate.proofs.NodeLaws.{without_symbol, in_symbol, in_kids, some_node_of}
use Rattle.fort_certificate.proofs.node.check_node.Goals as goal

pub returns-then-not-is_headed-clause-err : goal.returns-then-not-is_headed-clause-err
returns-then-not-is_headed-clause-err c = λ i. NoNode (λ h. let wrong : false ≡ true = c.if-not-is_headed.ensures.1 h in cc)

pub returns-in_default-split_first-2-clause-err : goal.returns-in_default-split_first-2-clause-err
returns-in_default-split_first-2-clause-err c =
    let list = c.in-Some.list.forms in
    let behind = c.in-Some-split_first.behind.forms in
    without_symbol c.args.form.now.bytes c.args.form.now.form c.in-Some-split_first._head.form list behind c.in-Some.ensures.some
    c.in-Some-split_first.ensures.some (c.if-not-is_headed.ensures.0 refl) c.in_default-split_first-2.ensures.none

pub returns-in_err-check_tuple_symbol-clause-err : goal.returns-in_err-check_tuple_symbol-clause-err
returns-in_err-check_tuple_symbol-clause-err c =
    let p = err_from_is_err_and c.from_residual.result c.from_residual.ensures.1 in
    let one = c.in-Some-split_first in
    let two = c.in-Some-split_first-2 in
    let bytes = two.ensures.bytes.0 ∙ (one.ensures.bytes.1 ∙ c.in-Some.ensures.bytes) in
    rw (p.1, p.2) (in_symbol c.args.form.now.bytes c.args.form.now.form one._head.form c.in-Some.list.forms one.behind.forms c.in-Some.ensures.some
    one.ensures.some (c.if-not-is_headed.ensures.0 refl) two.symbol.form two._kids.forms two.ensures.some (as_kind c.in_err-check_tuple_symbol.field-0.0)
    (rw bytes at c.in_err-check_tuple_symbol.ensures.err))

pub returns-clause-ok : goal.returns-clause-ok
returns-clause-ok c =
    let one = c.in-Some-split_first in
    let two = c.in-Some-split_first-2 in
    let bytes = c.args.form.now.bytes in
    let behind = one.ensures.bytes.1 ∙ c.in-Some.ensures.bytes in
    let symbol = rw (two.ensures.bytes.0 ∙ behind) at c.in_ok-check_tuple_symbol.ensures.ok in
    IfOk-weaker c.check_elements.result _ _
    (λ x fit. some_node_of bytes c.args.form.now.form one._head.form c.in-Some.list.forms one.behind.forms c.in-Some.ensures.some
    one.ensures.some (c.if-not-is_headed.ensures.0 refl) two.symbol.form two._kids.forms two.ensures.some symbol.0 symbol.1
    (subst (λ (fs : List Form). FitAll bytes [] (Some NumberSlot) (drop 1 fs)) two.ensures.some
    (subst (λ (b : List ℕ). FitAll b [] (Some NumberSlot) (drop 1 one.behind.forms)) behind fit)))
    c.check_elements.ensures.ok

pub returns-clause-err : goal.returns-clause-err
returns-clause-err c =
    let one = c.in-Some-split_first in
    let two = c.in-Some-split_first-2 in
    let behind = one.ensures.bytes.1 ∙ c.in-Some.ensures.bytes in
    let symbol = rw (two.ensures.bytes.0 ∙ behind) at c.in_ok-check_tuple_symbol.ensures.ok in
    IfErr-weaker c.check_elements.result _ _
    (λ wrong bad. in_kids c.args.form.now.bytes c.args.form.now.form one._head.form c.in-Some.list.forms one.behind.forms c.in-Some.ensures.some
    one.ensures.some (c.if-not-is_headed.ensures.0 refl) two.symbol.form two._kids.forms two.ensures.some (as_kind wrong) symbol.0 symbol.1 bad)
    (rw (behind, two.ensures.some) at c.check_elements.ensures.err)

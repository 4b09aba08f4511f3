use Rattle.std.proofs.Common.{[], ◌∷◌, ◌+◌, ap, ◌∙◌}
use Rattle.std.proofs.lemmas.Result.{IfOk-weaker, IfErr-weaker}
use Rattle.fort_theory.specs.Logic.{And}
use Rattle.fort_tables.specs.Entries.{tuples_of}
use Rattle.fort_tables.specs.Tables.{Table, listed_table}
use Rattle.fort_tables.specs.OperationTruth.{complemented}
use Rattle.fort_tables.specs.Products.{OfTable}
use Rattle.fort_connectives.specs.ConnectiveView.{connective_of}
use Rattle.fort_products.specs.Operands.{operand_of}
use Rattle.fort_callers.proofs.DifferenceLaws.{AreParts, product_of_parts, labels_of_parts, difference_tests}
use Rattle.fort_callers.proofs.OverCaps.{IfOver-weaker}
use Rattle.fort_callers.proofs.rrn_algebra.difference.Goals as goal

pub returns-clause-accepted : goal.returns-clause-accepted
returns-clause-accepted c =
    let first = listed_table c.args.first.now in
    let second = listed_table c.args.second.now in
    let complement = listed_table c.in_ok-complement.complement in
    let both = c.new-both.result in
    let e = c.new-both.ensures in
    let parts : AreParts c.signature.result.now first.signature both.columns 1 (connective_of both.op) And (operand_of listed_table both.first) (OfTable first (0 ∷ [])) (operand_of listed_table both.second) (OfTable complement (0 ∷ [])) = record {
      signature_is = c.signature.ensures;
      columns_are = e.columns;
      connective = ap connective_of e.op;
      first_is = ap (operand_of listed_table) e.first;
      second_is = ap (operand_of listed_table) e.second;
    } in
    IfOk-weaker c.explore.result _ _
    (λ t made. difference_tests first.signature first second complement (listed_table t) c.requires.signature c.requires.other c.in_ok-complement.ensures.accepted
    e.accepted (product_of_parts _ _ _ _ _ _ _ _ _ _ (listed_table t) parts made))
    c.explore.ensures.table

pub returns-clause-over : goal.returns-clause-over
returns-clause-over c =
    let first = listed_table c.args.first.now in
    let turned = complemented (listed_table c.args.second.now) in
    let both = c.new-both.result in
    let e = c.new-both.ensures in
    let parts : AreParts c.signature.result.now first.signature both.columns 1 (connective_of both.op) And (operand_of listed_table both.first) (OfTable first (0 ∷ [])) (operand_of listed_table both.second) (OfTable turned (0 ∷ [])) = record {
      signature_is = c.signature.ensures;
      columns_are = e.columns;
      connective = ap connective_of e.op;
      first_is = ap (operand_of listed_table) e.first;
      second_is = ap (operand_of listed_table) e.second ∙ ap (λ (t : Table). OfTable t (0 ∷ [])) c.in_ok-complement.ensures.complement;
    } in
    IfErr-weaker c.explore.result _ _
    (λ fault over. IfOver-weaker fault _ _ (λ tuples have. labels_of_parts _ _ _ _ _ _ _ _ _ _ (c.args.cap + 1) (tuples_of tuples) parts have) over)
    c.explore.ensures.over

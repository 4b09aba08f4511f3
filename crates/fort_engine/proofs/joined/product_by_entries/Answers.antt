use Rattle.std.proofs.Common.{IfSome, sym, ap, ◌∙◌, subst}
use Rattle.fort_tables.specs.Products.{Operand}
use Rattle.fort_target_lists.specs.TargetLists.{IsOperandList}
use Rattle.fort_tables.specs.Tables.{listed_table}
use Rattle.fort_products.specs.Operands as algebra
use Rattle.fort_connectives.specs.ConnectiveView.{connective_of}
use Rattle.fort_engine.specs.AnswerView.{as_answer}
use Rattle.fort_engine.proofs.JoinLaws.{AreOperands-product, signature-product, AreLabelsFor-product}
use Rattle.fort_engine.proofs.joined.product_by_entries.Goals as goal

pub new-requires-clause-operands : goal.new-requires-clause-operands
new-requires-clause-operands c =
    let a = c.args in
    AreOperands-product a.system.now a.options.now (connective_of a.op) c.requires.0 c.requires.1 c.requires.2 (as_answer a.first.now) a.places.now (as_answer a.second.now)
    a.others.now a.columns c.requires.3 (algebra.operand_of listed_table c.operand-one.result) (algebra.operand_of listed_table c.operand-other.result) c.operand-one.ensures
    c.operand-other.ensures

pub listed-product-requires-clause-first : goal.listed-product-requires-clause-first
listed-product-requires-clause-first c =
    subst (λ (o : Operand). IfSome c.list_of.result (λ l. IsOperandList o l.now)) (sym (ap (algebra.operand_of listed_table) c.new.ensures.first ∙ c.operand-one.ensures))
    (c.list_of.ensures c.args.places.now)

pub listed-product-requires-clause-second : goal.listed-product-requires-clause-second
listed-product-requires-clause-second c =
    subst (λ (o : Operand). IfSome c.list_of-2.result (λ l. IsOperandList o l.now)) (sym (ap (algebra.operand_of listed_table) c.new.ensures.second ∙ c.operand-other.ensures))
    (c.list_of-2.ensures c.args.others.now)

pub explored-requires : goal.explored-requires
explored-requires c =
    let a = c.args in
    let made = c.new.ensures in
    let listed = c.listed-product.ensures in
    sym (signature-product a.system.now a.options.now (connective_of a.op) c.requires.0 c.requires.1 c.requires.2 (as_answer a.first.now) a.places.now (as_answer a.second.now)
    a.others.now a.columns c.requires.3 (algebra.operand_of listed_table c.listed-product.result.first) (algebra.operand_of listed_table c.listed-product.result.second)
    (ap (algebra.operand_of listed_table) (listed.first ∙ made.first) ∙ c.operand-one.ensures) (ap (algebra.operand_of listed_table) (listed.second ∙ made.second) ∙ c.operand-other.ensures))

pub returns : goal.returns
returns c h f g join =
    let a = c.args in
    let made = c.new.ensures in
    let listed = c.listed-product.ensures in
    c.explored.ensures h
    (AreLabelsFor-product a.system.now a.options.now (connective_of a.op) h f g (as_answer a.first.now) a.places.now (as_answer a.second.now) a.others.now a.columns join
    (algebra.operand_of listed_table c.listed-product.result.first) (algebra.operand_of listed_table c.listed-product.result.second)
    (ap (algebra.operand_of listed_table) (listed.first ∙ made.first) ∙ c.operand-one.ensures) (ap (algebra.operand_of listed_table) (listed.second ∙ made.second) ∙ c.operand-other.ensures)
    c.listed-product.result.columns (connective_of c.listed-product.result.op) (listed.columns ∙ made.columns) (ap connective_of (listed.op ∙ made.op)))

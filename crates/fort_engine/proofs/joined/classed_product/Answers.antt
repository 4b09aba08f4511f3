use Rattle.std.proofs.Common.{ℕ, IfSome, refl, sym, ap, ◌∙◌, subst}
use Rattle.fort_tables.specs.Tuples.{TupleSymbol}
use Rattle.fort_tables.specs.Tables.{listed_table}
use Rattle.fort_tables.specs.Products.{Operand}
use Rattle.fort_target_lists.specs.TargetLists.{IsOperandList}
use Rattle.fort_products.specs.Operands as algebra
use Rattle.fort_connectives.specs.ConnectiveView.{connective_of}
use Rattle.fort_classed_tables.specs.declared.classed_table.ClassedTable.{ClassedTable}
use Rattle.fort_classed_tables.specs.TableViews.{number_in, leader_by}
use Rattle.fort_engine.specs.ClassedView.{classed_table}
use Rattle.fort_engine.proofs.JoinLaws.{AreOperands-product, signature-product, AreLabelsFor-product}
use Rattle.fort_engine.proofs.KeyedLaws.{goes_joined}
use Rattle.fort_engine.proofs.joined.classed_product.Goals as goal

-- the numbers of a table's views, and the leaders in them
numbers : ClassedTable → TupleSymbol → ℕ → ℕ
numbers c = number_in (listed_table c.table.now) c.views

leaders : ClassedTable → ℕ → ℕ → ℕ
leaders c = leader_by c.views

pub new-requires-clause-operands : goal.new-requires-clause-operands
new-requires-clause-operands c =
    let a = c.args in
    let r = c.requires in
    AreOperands-product a.system.now a.options.now (connective_of a.op) r.0 r.1 r.2 r.3 a.places.now r.4 a.others.now a.columns r.5
    (algebra.operand_of classed_table c.operand-one.result) (algebra.operand_of classed_table c.operand-other.result)
    (c.operand-one.ensures ∙ r.6.first_is) (c.operand-other.ensures ∙ r.6.second_is)

pub listed-product-requires-clause-first : goal.listed-product-requires-clause-first
listed-product-requires-clause-first c =
    subst (λ (o : Operand). IfSome c.list.result (λ l. IsOperandList o l.now)) (sym (ap (algebra.operand_of classed_table) c.new.ensures.first ∙ c.operand-one.ensures))
    (c.list.ensures c.args.places.now)

pub listed-product-requires-clause-second : goal.listed-product-requires-clause-second
listed-product-requires-clause-second c =
    subst (λ (o : Operand). IfSome c.list-2.result (λ l. IsOperandList o l.now)) (sym (ap (algebra.operand_of classed_table) c.new.ensures.second ∙ c.operand-other.ensures))
    (c.list-2.ensures c.args.others.now)

pub explored_by_keys-requires-clause-serves : goal.explored_by_keys-requires-clause-serves
explored_by_keys-requires-clause-serves c =
    let a = c.args in
    let r = c.requires in
    let made = c.new.ensures in
    let listed = c.listed-product.ensures in
    sym (signature-product a.system.now a.options.now (connective_of a.op) r.0 r.1 r.2 r.3 a.places.now r.4 a.others.now a.columns r.5
    (algebra.operand_of classed_table c.listed-product.result.first) (algebra.operand_of classed_table c.listed-product.result.second)
    (ap (algebra.operand_of classed_table) (listed.first ∙ made.first) ∙ (c.operand-one.ensures ∙ r.6.first_is))
    (ap (algebra.operand_of classed_table) (listed.second ∙ made.second) ∙ (c.operand-other.ensures ∙ r.6.second_is)))

pub explored_by_keys-requires-clause-goes : goal.explored_by_keys-requires-clause-goes
unfolding leaders numbers
explored_by_keys-requires-clause-goes c =
    let product = c.listed-product.result in
    let k = c.new-keys in
    goes_joined classed_table numbers leaders c.args.system.now.signature product.columns k.result.product.now.columns product.first product.second k.result.product.now.first
    k.result.product.now.second (λ i. (k.ensures.lent i).columns) (λ i. (k.ensures.lent i).first) (λ i. (k.ensures.lent i).second) (explored_by_keys-requires-clause-serves c)
    k.ensures.goes

pub explored_by_keys-requires-clause-width : goal.explored_by_keys-requires-clause-width
explored_by_keys-requires-clause-width c = refl

pub returns : goal.returns
returns c h f g a b join classed =
    let made = c.new.ensures in
    let listed = c.listed-product.ensures in
    c.explored_by_keys.ensures h
    (AreLabelsFor-product c.args.system.now c.args.options.now (connective_of c.args.op) h f g a c.args.places.now b c.args.others.now c.args.columns join
    (algebra.operand_of classed_table c.listed-product.result.first) (algebra.operand_of classed_table c.listed-product.result.second)
    (ap (algebra.operand_of classed_table) (listed.first ∙ made.first) ∙ (c.operand-one.ensures ∙ classed.first_is))
    (ap (algebra.operand_of classed_table) (listed.second ∙ made.second) ∙ (c.operand-other.ensures ∙ classed.second_is))
    c.listed-product.result.columns (connective_of c.listed-product.result.op) (listed.columns ∙ made.columns) (ap connective_of (listed.op ∙ made.op)))

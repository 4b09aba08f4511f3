use Rattle.std.proofs.Common.{ℕ, List, IsTrue, IfOk, IfErr, true, take, ap, sym, ◌∙◌, subst}
use Rattle.std.proofs.lemmas.Result.{IfOk-weaker}
use Rattle.fort_tables.specs.Entries.{tuples_of}
use Rattle.fort_tables.specs.Tables.{listed_table}
use Rattle.fort_tables.specs.Labels.{IsTableOf, HaveLabels}
use Rattle.fort_tables.specs.LabelRules.{label_of}
use Rattle.fort_tables.specs.Products.{OfTable, OfTruth, IsOperand, product_rule, product_accepts}
use Rattle.fort_theory.specs.Logic as logic
use Rattle.fort_tables.specs.OperationTruth.{TestsRelation, Cylinder, accepts}
use Rattle.fort_tables.proofs.TableTruth.{exchange_decides}
use Rattle.fort_explore.specs.Answer.{IfOver}
use Rattle.fort_rrn_algebra.proofs.TableMade.{order_operand}
use Rattle.fort_rrn_algebra.proofs.tables.permute.Goals as goal

pub widen-requires-clause-places : goal.widen-requires-clause-places
widen-requires-clause-places g c =
    let table = g.T.Table.table c.args.old.now in
    let count = c.columns-columns.ensures.count in
    let back = ap (λ n. take n c.undone-places.result) count ∙ c.undone-places.ensures table.columns c.requires in
    subst (λ (n : ℕ). IsOperand table.signature n (OfTable table (take c.columns-columns.result c.undone-places.result))) (sym count)
    (order_operand table (take c.columns-columns.result c.undone-places.result) c.args.order.now c.requires back)

pub returns-clause-accepted : goal.returns-clause-accepted
returns-clause-accepted g c =
    let table = g.T.Table.table c.args.old.now in
    let count = c.columns-columns.ensures.count in
    let back = ap (λ n. take n c.undone-places.result) count ∙ c.undone-places.ensures table.columns c.requires in
    IfOk-weaker c.widen.result _ _
    (λ t made. exchange_decides table.signature table.columns (accepts (listed_table t)) c.args.order.now (λ s. IsTrue (accepts table s)) c.requires
    (subst (λ (ps : List ℕ). TestsRelation table.signature table.columns (accepts (listed_table t)) (Cylinder ps (λ s. IsTrue (accepts table s)))) back
    (subst (λ (n : ℕ). TestsRelation table.signature n (accepts (listed_table t)) (Cylinder (take c.columns-columns.result c.undone-places.result) (λ s. IsTrue (accepts table s)))) count made)))
    c.widen.ensures.accepted

pub returns-clause-over : goal.returns-clause-over
returns-clause-over g c = λ o.
    let table = g.T.Table.table c.args.old.now in
    let count = c.columns-columns.ensures.count in
    let back = ap (λ n. take n c.undone-places.result) count ∙ c.undone-places.ensures table.columns o in
    let F : ℕ → List ℕ → Type 0 = λ n ps. IfErr c.widen.result (λ e. IfOver e (λ tuples. HaveLabels table.signature n (label_of (product_rule n (OfTable table ps) (OfTruth true))) 4294967296 (tuples_of tuples))) in
    subst (F table.columns) back (subst (λ (n : ℕ). F n (take c.columns-columns.result c.undone-places.result)) count c.widen.ensures.over)

pub returns-clause-table : goal.returns-clause-table
returns-clause-table g c = λ o.
    let table = g.T.Table.table c.args.old.now in
    let count = c.columns-columns.ensures.count in
    let back = ap (λ n. take n c.undone-places.result) count ∙ c.undone-places.ensures table.columns o in
    let F : ℕ → List ℕ → Type 0 = λ n ps. IfOk c.widen.result (λ t. IsTableOf table.signature n (label_of (product_rule n (OfTable table ps) (OfTruth true))) (product_accepts logic.And (OfTable table ps) (OfTruth true)) (listed_table t)) in
    subst (F table.columns) back (subst (λ (n : ℕ). F n (take c.columns-columns.result c.undone-places.result)) count c.widen.ensures.table)

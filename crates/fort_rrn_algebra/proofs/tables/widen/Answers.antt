use Rattle.std.proofs.Common.{IsTrue, true, ap}
use Rattle.std.proofs.lemmas.Result.{IfOk-weaker}
use Rattle.fort_tables.specs.Tables.{listed_table}
use Rattle.fort_theory.specs.Logic as logic
use Rattle.fort_tables.specs.Products as products
use Rattle.fort_tables.specs.OperationTruth.{Cylinder, accepts}
use Rattle.fort_tables.proofs.TableTruth.{tests_by_label, cylinder_decides}
use Rattle.fort_connectives.specs.ConnectiveView.{connective_of}
use Rattle.fort_products.specs.Operands.{operand_of}
use Rattle.fort_rrn_algebra.proofs.TableMade.{AreParts, table_of_parts, table_by_parts}
use Rattle.fort_rrn_algebra.proofs.tables.widen.Goals as goal

pub returns-clause-table : goal.returns-clause-table
returns-clause-table g c =
    let table = g.T.Table.table c.args.old.now in
    let both = c.new-both.result in
    let e = c.new-both.ensures in
    let parts : AreParts c.signature.result.now table.signature both.columns c.args.total (connective_of both.op) logic.And (operand_of g.T.Table.table both.first) (products.OfTable table c.args.places.now) (operand_of g.T.Table.table both.second) (products.OfTruth true) = record {
      signature_is = c.signature.ensures;
      columns_are = e.columns;
      connective = ap connective_of e.op;
      first_is = ap (operand_of g.T.Table.table) e.first;
      second_is = ap (operand_of g.T.Table.table) e.second;
    } in
    IfOk-weaker c.explore.result _ _ (λ t made. table_of_parts _ _ _ _ _ _ _ _ _ _ (listed_table t) parts made) c.explore.ensures.ok

pub returns-clause-accepted : goal.returns-clause-accepted
returns-clause-accepted g c =
    let table = g.T.Table.table c.args.old.now in
    let both = c.new-both.result in
    let e = c.new-both.ensures in
    let parts : AreParts c.signature.result.now table.signature both.columns c.args.total (connective_of both.op) logic.And (operand_of g.T.Table.table both.first) (products.OfTable table c.args.places.now) (operand_of g.T.Table.table both.second) (products.OfTruth true) = record {
      signature_is = c.signature.ensures;
      columns_are = e.columns;
      connective = ap connective_of e.op;
      first_is = ap (operand_of g.T.Table.table) e.first;
      second_is = ap (operand_of g.T.Table.table) e.second;
    } in
    IfOk-weaker c.explore.result _ _
    (λ t made. tests_by_label table.signature c.args.total _ _ (listed_table t) (Cylinder c.args.places.now (λ s. IsTrue (accepts table s)))
    (table_by_parts _ _ _ _ _ _ _ _ _ _ (listed_table t) parts made)
    (cylinder_decides table.signature c.args.total table c.args.places.now c.requires.places c.states-states.ensures.lawful c.states-states.ensures.reached))
    c.explore.ensures.table

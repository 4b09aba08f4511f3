use Rattle.std.proofs.Common.{IsTrue}
use Rattle.fort_tables.specs.Products.{signature_of}
use Rattle.fort_tables.specs.OperationTruth.{said_by}
use Rattle.fort_tables.proofs.AgreementLaws.{both_by_states}
use Rattle.fort_tables.proofs.TruthLaws.{both_decides}
use Rattle.fort_connectives.specs.ConnectiveView.{connective_of}
use Rattle.fort_products.specs.Operands.{operand_of}
use Rattle.fort_products.proofs.product.Both.new.Goals as goal

pub returns-clause-agree : goal.returns-clause-agree
returns-clause-agree g c =
    let first = operand_of g.T.Table.table c.args.first in
    let second = operand_of g.T.Table.table c.args.second in
    both_by_states (signature_of first second) c.args.columns first second c.requires.operands.first_is c.requires.operands.second_is

pub returns-clause-accepted : goal.returns-clause-accepted
returns-clause-accepted g c =
    let first = operand_of g.T.Table.table c.args.first in
    let second = operand_of g.T.Table.table c.args.second in
    both_decides (signature_of first second) c.args.columns (connective_of c.args.op) first second (λ t. IsTrue (said_by first t)) (λ t. IsTrue (said_by second t))
    c.requires.operands.first_is c.requires.operands.second_is c.columns-first_columns.ensures.lawful c.columns-second_columns.ensures.lawful
    (λ t h f. ((λ e. e), (λ e. e))) (λ t h f. ((λ e. e), (λ e. e)))

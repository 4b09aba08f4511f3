use Rattle.fort_products.specs.Operands.{operand_of}
use Rattle.fort_products.proofs.JointLaws.{operand_read, under_read}
use Rattle.fort_products.proofs.joint.joint_of.Goals as goal

pub under_of-requires-clause-operand : goal.under_of-requires-clause-operand
under_of-requires-clause-operand g c =
    operand_read _ (operand_of g.T.Table.table c.args.first.now) c.args.symbol.now c.digits-digits.result.now c.digits-digits.ensures.digits c.requires.operands.first_is c.requires.symbols

pub under_of-requires-2-clause-operand : goal.under_of-requires-2-clause-operand
under_of-requires-2-clause-operand g c =
    operand_read _ (operand_of g.T.Table.table c.args.second.now) c.args.symbol.now c.digits-digits.result.now c.digits-digits.ensures.digits c.requires.operands.second_is c.requires.symbols

pub returns : goal.returns
returns g c = record {
  presence_is = c.presence.ensures;
  first_is = under_read (operand_of g.T.Table.table c.args.first.now) 1 c.args.symbol.now c.digits-digits.result.now c.in_ok-first.first c.digits-digits.ensures.digits c.in_ok-first.ensures;
  second_is = under_read (operand_of g.T.Table.table c.args.second.now) 2 c.args.symbol.now c.digits-digits.result.now c.in_ok-second.second c.digits-digits.ensures.digits c.in_ok-second.ensures;
}

use Rattle.fort_products.specs.Operands.{operand_of}
use Rattle.fort_products.proofs.OperandEntries.{full_first, full_second}
use Rattle.fort_products.proofs.local.both_accepts.Goals as goal

pub operand_accepts-first_accepts-requires : goal.operand_accepts-first_accepts-requires
operand_accepts-first_accepts-requires g c = full_first _ c.requires.0 (operand_of g.T.Table.table c.args.first.now) (operand_of g.T.Table.table c.args.second.now) c.args.label.now c.requires.1 c.requires.2

pub operand_accepts-second_accepts-requires : goal.operand_accepts-second_accepts-requires
operand_accepts-second_accepts-requires g c = full_second _ c.requires.0 (operand_of g.T.Table.table c.args.first.now) (operand_of g.T.Table.table c.args.second.now) c.args.label.now c.requires.1 c.requires.2

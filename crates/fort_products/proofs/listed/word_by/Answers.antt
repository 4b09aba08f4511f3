use Rattle.fort_products.specs.Operands.{operand_of}
use Rattle.fort_products.proofs.JointLaws.{operand_read, entry_there, entry_word}
use Rattle.fort_products.proofs.listed.word_by.Goals as goal

pub under_of-requires-clause-operand : goal.under_of-requires-clause-operand
under_of-requires-clause-operand g c =
    let over = c.requires.over in
    operand_read over.0 (operand_of g.T.Table.table c.args.operand.now) c.args.row.now.symbol c.digits.result.now c.digits.ensures.digits over.1.operand over.1.entry.symbol.symbols

pub word-requires : goal.word-requires
word-requires g c =
    let over = c.requires.over in
    entry_there (operand_of g.T.Table.table c.args.operand.now) over.0 c.args.at c.args.rows.now.labels c.args.row.now c.digits.result.now c.kids.result.now c.in-Some.under c.digits.ensures.digits c.kids.ensures.states c.in-Some.ensures over.1 c.requires.wide

pub returns-in-Some : goal.returns-in-Some
returns-in-Some g c =
    let over = c.requires.over in
    entry_word (operand_of g.T.Table.table c.args.operand.now) over.0 c.args.at c.args.rows.now.labels c.args.row.now c.digits.result.now c.kids.result.now c.in-Some.under c.digits.ensures.digits c.kids.ensures.states c.in-Some.ensures over.1 c.word.result c.word.ensures

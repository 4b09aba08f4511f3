use Rattle.std.proofs.Common.{length, arith}
use Rattle.fort_products.specs.Operands.{operand_of}
use Rattle.fort_products.proofs.OperandEntries.{over_first, over_second, three_long, words_written}
use Rattle.fort_products.proofs.listed.write_both.Goals as goal

pub word_by-requires-clause-over : goal.word_by-requires-clause-over
word_by-requires-clause-over g c =
    (_, over_first _ (length c.args.row.now.symbol) (operand_of g.T.Table.table c.args.first.now) (operand_of g.T.Table.table c.args.second.now) c.args.rows.now.labels c.args.row.now c.requires.operands c.requires.over)

pub word_by-requires-clause-wide : goal.word_by-requires-clause-wide
word_by-requires-clause-wide g c =
    λ q l. omega (arith, three_long _ (length c.args.row.now.symbol) (operand_of g.T.Table.table c.args.first.now) (operand_of g.T.Table.table c.args.second.now) c.args.rows.now.labels c.args.row.now c.requires.operands c.requires.over q l)

pub word_by-requires-in-None-clause-over : goal.word_by-requires-in-None-clause-over
word_by-requires-in-None-clause-over g c =
    (_, over_second _ (length c.args.row.now.symbol) (operand_of g.T.Table.table c.args.first.now) (operand_of g.T.Table.table c.args.second.now) c.args.rows.now.labels c.args.row.now c.requires.operands c.requires.over)

pub word_by-requires-in-None-clause-wide : goal.word_by-requires-in-None-clause-wide
word_by-requires-in-None-clause-wide g c =
    λ q l. omega (arith, three_long _ (length c.args.row.now.symbol) (operand_of g.T.Table.table c.args.first.now) (operand_of g.T.Table.table c.args.second.now) c.args.rows.now.labels c.args.row.now c.requires.operands c.requires.over q l)

pub returns-in-Some : goal.returns-in-Some
returns-in-Some g c = words_written c.args.out.now _ _ _ _ _ _ c.requires.room c.presence.ensures c.in-Some.ensures.first c.in-Some.ensures.second

pub returns-in-None : goal.returns-in-None
returns-in-None g c = words_written c.args.out.now _ _ _ _ _ _ c.requires.room c.presence.ensures c.word_by.ensures c.word_by-in-None.ensures

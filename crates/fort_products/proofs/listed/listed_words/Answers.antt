use Rattle.std.proofs.Common.{length, arith}
use Rattle.fort_products.specs.Operands.{operand_of}
use Rattle.fort_products.proofs.OperandEntries.{over_first, over_second, three_long}
use Rattle.fort_products.proofs.JointLaws.{operand_read, entry_there, entry_word}
use Rattle.fort_products.proofs.listed.listed_words.Goals as goal

pub under_of-requires-clause-operand : goal.under_of-requires-clause-operand
under_of-requires-clause-operand g c =
    operand_read _ (operand_of g.T.Table.table c.args.first.now) c.args.row.now.symbol c.digits-digits.result.now c.digits-digits.ensures.digits c.requires.operands.first_is c.requires.over.entry.symbol.symbols

pub under_of-requires-2-clause-operand : goal.under_of-requires-2-clause-operand
under_of-requires-2-clause-operand g c =
    operand_read _ (operand_of g.T.Table.table c.args.second.now) c.args.row.now.symbol c.digits-digits.result.now c.digits-digits.ensures.digits c.requires.operands.second_is c.requires.over.entry.symbol.symbols

pub word-requires : goal.word-requires
word-requires g c =
    let first = operand_of g.T.Table.table c.args.first.now in
    let second = operand_of g.T.Table.table c.args.second.now in
    let e = c.args.row.now in
    let labels = c.args.rows.now.labels in
    entry_there first _ 1 labels e c.digits-digits.result.now c.kids-kids.result.now c.in_ok-first.first c.digits-digits.ensures.digits c.kids-kids.ensures.states c.in_ok-first.ensures
    (over_first _ (length e.symbol) first second labels e c.requires.operands c.requires.over) (λ q l. omega (arith, three_long _ (length e.symbol) first second labels e c.requires.operands c.requires.over q l))

pub word-requires-2 : goal.word-requires-2
word-requires-2 g c =
    let first = operand_of g.T.Table.table c.args.first.now in
    let second = operand_of g.T.Table.table c.args.second.now in
    let e = c.args.row.now in
    let labels = c.args.rows.now.labels in
    entry_there second _ 2 labels e c.digits-digits.result.now c.kids-kids.result.now c.in_ok-second.second c.digits-digits.ensures.digits c.kids-kids.ensures.states c.in_ok-second.ensures
    (over_second _ (length e.symbol) first second labels e c.requires.operands c.requires.over) (λ q l. omega (arith, three_long _ (length e.symbol) first second labels e c.requires.operands c.requires.over q l))

pub returns-clause-first : goal.returns-clause-first
returns-clause-first g c =
    let first = operand_of g.T.Table.table c.args.first.now in
    let second = operand_of g.T.Table.table c.args.second.now in
    let e = c.args.row.now in
    let labels = c.args.rows.now.labels in
    entry_word first _ 1 labels e c.digits-digits.result.now c.kids-kids.result.now c.in_ok-first.first c.digits-digits.ensures.digits c.kids-kids.ensures.states c.in_ok-first.ensures
    (over_first _ (length e.symbol) first second labels e c.requires.operands c.requires.over) c.word.result c.word.ensures

pub returns-clause-second : goal.returns-clause-second
returns-clause-second g c =
    let first = operand_of g.T.Table.table c.args.first.now in
    let second = operand_of g.T.Table.table c.args.second.now in
    let e = c.args.row.now in
    let labels = c.args.rows.now.labels in
    entry_word second _ 2 labels e c.digits-digits.result.now c.kids-kids.result.now c.in_ok-second.second c.digits-digits.ensures.digits c.kids-kids.ensures.states c.in_ok-second.ensures
    (over_second _ (length e.symbol) first second labels e c.requires.operands c.requires.over) c.word-2.result c.word-2.ensures

use Rattle.std.proofs.Common.{◌+◌, refl}
use Rattle.std.proofs.lemmas.Result.{err_from_is_err_and}
use Rattle.fort_formula_grammar.specs.ExpressionGrammar.{expression_words}
use Rattle.fort_formula_grammar.specs.StuckExpressions.{StuckExpression}
use Rattle.fort_formula_parser.specs.ExpressionParsing.{as_one, as_two}
use Rattle.fort_formula_parser.proofs.Levels.{handed_on}
use Rattle.fort_formula_parser.proofs.Expressions.{no_word_unnamed, no_word_other, stuck_no_word, stuck_one_unopened, stuck_in_one, stuck_one_unclosed, IsExpressionAt-one, stuck_two_unopened, stuck_in_first, stuck_first_alone, stuck_in_second, stuck_two_unclosed, IsExpressionAt-two}
use Rattle.fort_formula_parser.proofs.expression.+expression.Goals as goal

pub expression-returns-in_default-clause-err : goal.expression-returns-in_default-clause-err
expression-returns-in_default-clause-err t c =
    stuck_no_word c.args.lexemes.now c.args.at c.requires (no_word_unnamed expression_words _ c.in_default.ensures)

pub expression-returns-in-None-clause-err : goal.expression-returns-in-None-clause-err
expression-returns-in-None-clause-err t c =
    stuck_no_word c.args.lexemes.now c.args.at c.requires
    (no_word_other expression_words c.args.lexemes.now c.args.at c.in-Some.word.now c.in-Some.ensures c.in-None.ensures)

pub one_operand-returns-then-not-is_next-clause-err : goal.one_operand-returns-then-not-is_next-clause-err
one_operand-returns-then-not-is_next-clause-err t c =
    stuck_one_unopened c.args.lexemes.now c.args.at (as_one c.args.op) c.requires c.if-not-is_next.ensures

pub one_operand-returns-in_err-made-clause-err : goal.one_operand-returns-in_err-made-clause-err
one_operand-returns-in_err-made-clause-err t c =
    let p = err_from_is_err_and c.from_residual.result c.from_residual.ensures.1 in
    handed_on StuckExpression StuckExpression c.args.lexemes.now (c.args.at + 2) c.args.at c.from_residual.result p.0 c.in_err-made.field-0.0
    (stuck_in_one c.args.lexemes.now c.args.at (as_one c.args.op) c.requires c.if-not-is_next.ensures) p.1 p.2 c.in_err-made.ensures.err

pub one_operand-returns-then-not-is_next-2-clause-err : goal.one_operand-returns-then-not-is_next-2-clause-err
one_operand-returns-then-not-is_next-2-clause-err t c =
    stuck_one_unclosed c.args.lexemes.now c.args.at (as_one c.args.op) c.requires c.in_ok-made.field-0 c.if-not-is_next.ensures c.in_ok-made.ensures.ok
    c.if-not-is_next-2.ensures

pub one_operand-returns-clause-ok : goal.one_operand-returns-clause-ok
one_operand-returns-clause-ok t c =
    IsExpressionAt-one c.args.lexemes.now c.args.at (as_one c.args.op) c.requires c.in_ok-made.field-0 _ c.if-not-is_next.ensures c.in_ok-made.ensures.ok
    c.if-not-is_next-2.ensures refl c.made_of_one.ensures

pub two_operands-returns-then-not-is_next-clause-err : goal.two_operands-returns-then-not-is_next-clause-err
two_operands-returns-then-not-is_next-clause-err t c =
    stuck_two_unopened c.args.lexemes.now c.args.at (as_two c.args.op) c.requires c.if-not-is_next.ensures

pub two_operands-returns-in_err-first-clause-err : goal.two_operands-returns-in_err-first-clause-err
two_operands-returns-in_err-first-clause-err t c =
    let p = err_from_is_err_and c.from_residual.result c.from_residual.ensures.1 in
    handed_on StuckExpression StuckExpression c.args.lexemes.now (c.args.at + 2) c.args.at c.from_residual.result p.0 c.in_err-first.field-0.0
    (stuck_in_first c.args.lexemes.now c.args.at (as_two c.args.op) c.requires c.if-not-is_next.ensures) p.1 p.2 c.in_err-first.ensures.err

pub two_operands-returns-then-not-is_next-2-clause-err : goal.two_operands-returns-then-not-is_next-2-clause-err
two_operands-returns-then-not-is_next-2-clause-err t c =
    stuck_first_alone c.args.lexemes.now c.args.at (as_two c.args.op) c.requires c.in_ok-first.first c.if-not-is_next.ensures c.in_ok-first.ensures.ok
    c.if-not-is_next-2.ensures

pub two_operands-returns-in_err-made-clause-err : goal.two_operands-returns-in_err-made-clause-err
two_operands-returns-in_err-made-clause-err t c =
    let p = err_from_is_err_and c.from_residual-in_err-made.result c.from_residual-in_err-made.ensures.1 in
    handed_on StuckExpression StuckExpression c.args.lexemes.now (c.in_ok-first.first.next + 1) c.args.at c.from_residual-in_err-made.result p.0
    c.in_err-made.field-0.0 (stuck_in_second c.args.lexemes.now c.args.at (as_two c.args.op) c.requires c.in_ok-first.first c.if-not-is_next.ensures
    c.in_ok-first.ensures.ok c.if-not-is_next-2.ensures) p.1 p.2 c.in_err-made.ensures.err

pub two_operands-returns-then-not-is_next-3-clause-err : goal.two_operands-returns-then-not-is_next-3-clause-err
two_operands-returns-then-not-is_next-3-clause-err t c =
    stuck_two_unclosed c.args.lexemes.now c.args.at (as_two c.args.op) c.requires c.in_ok-first.first c.in_ok-made.field-0 c.if-not-is_next.ensures
    c.in_ok-first.ensures.ok c.if-not-is_next-2.ensures c.in_ok-made.ensures.ok c.if-not-is_next-3.ensures

pub two_operands-returns-clause-ok : goal.two_operands-returns-clause-ok
two_operands-returns-clause-ok t c =
    IsExpressionAt-two c.args.lexemes.now c.args.at (as_two c.args.op) c.requires c.in_ok-first.first c.in_ok-made.field-0 _ c.if-not-is_next.ensures
    c.in_ok-first.ensures.ok c.if-not-is_next-2.ensures c.in_ok-made.ensures.ok c.if-not-is_next-3.ensures refl c.made_of_two.ensures

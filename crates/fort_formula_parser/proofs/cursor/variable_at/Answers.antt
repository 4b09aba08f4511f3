use Rattle.std.proofs.Common.{ap}
use Rattle.fort_formula_grammar.specs.Tokens as grammar
use Rattle.fort_formula_parser.specs.TokenView.{as_token}
use Rattle.fort_formula_parser.proofs.Cursors.{IsTokenAt-lexeme, HasNoNext-at, other_variable}
use Rattle.fort_formula_parser.proofs.cursor.variable_at.Goals as goal

pub returns-in-Variable : goal.returns-in-Variable
returns-in-Variable c =
    let here = c.in_ok-x.ensures.lookup.3 in
    IsTokenAt-lexeme c.args.lexemes.now c.args.at c.in_ok-x.field-0.now _ here.0 here.1 (ap as_token c.in-Variable.is)

pub returns-in_default : goal.returns-in_default
returns-in_default c x rest h =
    let here = c.in_ok-x.ensures.lookup.3 in
    HasNoNext-at c.args.lexemes.now c.args.at c.in_ok-x.field-0.now (grammar.Variable x) here.0 here.1
    (other_variable c.in_ok-x.field-0.now.token x c.in_default.not-Variable) rest h

use Rattle.std.proofs.Common.{ap}
use Rattle.fort_formula_grammar.specs.FormulaGrammar.{AVariable, AGround}
use Rattle.fort_formula_parser.specs.TokenView.{as_token}
use Rattle.fort_formula_parser.proofs.Cursors.{rest_of-end, IsTokenAt-lexeme, argument_here, no_argument_end, no_argument_at}
use Rattle.fort_formula_parser.proofs.cursor.argument_at.Goals as goal

pub returns-in_default : goal.returns-in_default
returns-in_default c = no_argument_end (rest_of-end c.args.lexemes.now c.args.at c.in_default.ensures.lookup.3)

pub returns-in-Variable : goal.returns-in-Variable
returns-in-Variable c =
    let here = c.in-Some.ensures.lookup.3 in
    argument_here c.args.lexemes.now c.args.at _ _ (IsTokenAt-lexeme c.args.lexemes.now c.args.at c.in-Some.lexeme.now _ here.0 here.1 (ap as_token c.in-Variable.is))
    (λ us. AVariable)

pub returns-in-Ground : goal.returns-in-Ground
returns-in-Ground c =
    let here = c.in-Some.ensures.lookup.3 in
    argument_here c.args.lexemes.now c.args.at _ _ (IsTokenAt-lexeme c.args.lexemes.now c.args.at c.in-Some.lexeme.now _ here.0 here.1 (ap as_token c.in-Ground.is))
    (λ us. AGround)

pub returns-in_default-token : goal.returns-in_default-token
returns-in_default-token c =
    let here = c.in-Some.ensures.lookup.3 in
    no_argument_at c.args.lexemes.now c.args.at c.in-Some.lexeme.now here.0 here.1 c.in_default-token.not-Variable c.in_default-token.not-Ground

use Rattle.std.proofs.Common.{ap}
use Rattle.fort_formula_parser.specs.TokenView.{as_token}
use Rattle.fort_formula_parser.proofs.Cursors.{rest_of-end, IsTokenAt-lexeme, index_left_out, index_here, no_index_end, no_index_at}
use Rattle.fort_formula_parser.proofs.cursor.index_at.Goals as goal

pub returns-in_default : goal.returns-in_default
returns-in_default c =
    index_left_out c.args.lexemes.now c.args.at c.requires (no_index_end (rest_of-end c.args.lexemes.now c.args.at c.in_default.ensures.lookup.3))

pub returns-in-Index : goal.returns-in-Index
returns-in-Index c =
    let here = c.in-Some.ensures.lookup.3 in
    index_here c.args.lexemes.now c.args.at _ (IsTokenAt-lexeme c.args.lexemes.now c.args.at c.in-Some.lexeme.now _ here.0 here.1 (ap as_token c.in-Index.is))

pub returns-in_default-token : goal.returns-in_default-token
returns-in_default-token c =
    let here = c.in-Some.ensures.lookup.3 in
    index_left_out c.args.lexemes.now c.args.at c.requires
    (no_index_at c.args.lexemes.now c.args.at c.in-Some.lexeme.now here.0 here.1 c.in_default-token.not-Index)

use Rattle.std.proofs.Common.{ap}
use Rattle.fort_formula_grammar.specs.FormulaGrammar.{takes_index}
use Rattle.fort_formulas.specs.FormulaView.{as_surface_rel}
use Rattle.fort_formula_parser.specs.TokenView.{as_token}
use Rattle.fort_formula_parser.proofs.Cursors.{rest_of-end, IsTokenAt-lexeme, relation_alone, relation_with_index, takes_index-other, no_relation_end, no_relation_at}
use Rattle.fort_formula_parser.proofs.cursor.relation_at.Goals as goal

pub returns-in_default : goal.returns-in_default
returns-in_default c = no_relation_end (rest_of-end c.args.lexemes.now c.args.at c.in_default.ensures.lookup.3)

pub returns-in_default-token : goal.returns-in_default-token
returns-in_default-token c =
    let here = c.in-Some.ensures.lookup.3 in
    no_relation_at c.args.lexemes.now c.args.at c.in-Some.lexeme.now here.0 here.1 c.in_default-token.not-Related

pub returns-in-Eq : goal.returns-in-Eq
returns-in-Eq c =
    let here = c.in-Some.ensures.lookup.3 in
    relation_alone c.args.lexemes.now c.args.at c.in-Related.rel
    (IsTokenAt-lexeme c.args.lexemes.now c.args.at c.in-Some.lexeme.now _ here.0 here.1 (ap as_token c.in-Related.is))
    (ap (λ r. takes_index (as_surface_rel r)) c.in-Eq.is)

pub returns-in_default-rel : goal.returns-in_default-rel
returns-in_default-rel c =
    let here = c.in-Some.ensures.lookup.3 in
    relation_with_index c.args.lexemes.now c.args.at c.in-Related.rel c.index_at-index.result
    (IsTokenAt-lexeme c.args.lexemes.now c.args.at c.in-Some.lexeme.now _ here.0 here.1 (ap as_token c.in-Related.is))
    (takes_index-other c.in-Related.rel c.in_default-rel.not-Eq) c.index_at-index.ensures

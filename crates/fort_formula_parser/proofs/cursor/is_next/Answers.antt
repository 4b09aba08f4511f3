use Rattle.fort_formula_parser.specs.TokenView.{as_mark}
use Rattle.fort_formula_parser.proofs.Cursors.{is_next_cases}
use Rattle.fort_formula_parser.proofs.cursor.is_next.Goals as goal

pub returns : goal.returns
returns c =
    let here = c.in-Some.ensures.lookup.3 in
    is_next_cases c.args.lexemes.now c.args.at c.in-Some.lexeme.now (as_mark c.args.mark) c.is_mark.result here.0 here.1 c.is_mark.ensures

use Rattle.std.proofs.Common.{sym, ap, subst}
use Rattle.fort_formula_grammar.specs.FormulaText.{GoesWrongAt}
use Rattle.fort_formula_parser.specs.TokenView.{tokens_of}
use Rattle.fort_formula_parser.proofs.Wholes.{goes_wrong_there, goes_wrong_behind}
use Rattle.fort_formula_parser.proofs.top.offset_of.Goals as goal

pub returns-in-Some : goal.returns-in-Some
returns-in-Some c stuck =
    let here = c.in-Some.ensures.lookup.3 in
    let lexeme = c.in-Some.lexeme.now in
    subst (λ i. GoesWrongAt c.args.text.now (tokens_of c.args.lexemes.now) i) (sym (ap (λ l. l.at) (here.1 lexeme)))
    (goes_wrong_there c.args.text.now c.args.lexemes.now c.args.place lexeme c.requires.places here.0 stuck)

pub returns-in-None : goal.returns-in-None
returns-in-None c stuck = goes_wrong_behind c.args.text.now c.args.lexemes.now c.args.place c.in-None.ensures.lookup.3 stuck

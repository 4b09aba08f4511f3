use Rattle.std.proofs.Common.{◌+◌, refl}
use Rattle.std.proofs.lemmas.Result.{err_from_is_err_and}
use Rattle.fort_formula_grammar.specs.Stuck.{StuckUnary}
use Rattle.fort_formula_grammar.specs.StuckExpressions.{StuckEnclosed}
use Rattle.fort_formula_parser.specs.Parsing.{argument_of}
use Rattle.fort_formula_parser.proofs.Levels.{handed_on}
use Rattle.fort_formula_parser.proofs.Atoms.{IsParsed-in_context, stuck_in_relation, stuck_in_context}
use Rattle.fort_formula_parser.proofs.atom.compared_in_context.Goals as goal

pub returns-in_err-found-clause-err : goal.returns-in_err-found-clause-err
returns-in_err-found-clause-err c =
    let p = err_from_is_err_and c.from_residual.result c.from_residual.ensures.1 in
    handed_on StuckEnclosed StuckUnary c.args.lexemes.now (c.args.at + 1) c.args.at c.from_residual.result p.0 c.in_err-found.field-0.0
    (stuck_in_relation c.args.lexemes.now c.args.at (argument_of c.args.x) c.requires.here) p.1 p.2 c.in_err-found.ensures.err

pub returns-in_default-clause-err : goal.returns-in_default-clause-err
returns-in_default-clause-err c =
    stuck_in_context c.args.lexemes.now c.args.at c.in_ok-found.found (argument_of c.args.x) c.requires.here c.in_ok-found.ensures.ok c.in_default.ensures

pub returns-clause-ok : goal.returns-clause-ok
returns-clause-ok c =
    IsParsed-in_context c.args.lexemes.now c.args.at c.in_ok-found.found (argument_of c.args.x) (argument_of c.in-Some.y) _ c.requires.here
    c.in_ok-found.ensures.ok c.in-Some.ensures refl c.in_context.ensures

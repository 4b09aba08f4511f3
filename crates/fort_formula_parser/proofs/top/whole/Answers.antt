use Rattle.std.proofs.lemmas.Result.{err_from_is_err_and}
use Rattle.fort_formula_grammar.specs.Stuck.{StuckFormula, StuckWhole, InFormula}
use Rattle.fort_formula_parser.proofs.Levels.{handed_on}
use Rattle.fort_formula_parser.proofs.Wholes.{stuck_behind_formula, IsWhole-parsed}
use Rattle.fort_formula_parser.proofs.top.whole.Goals as goal

pub returns-then-next-lexemes-clause-err : goal.returns-then-next-lexemes-clause-err
returns-then-next-lexemes-clause-err c =
    stuck_behind_formula c.args.lexemes.now c.in_ok-made.field-0 c.in_ok-made.ensures.ok c.if-next-lexemes.true

pub returns-in_err-made-clause-err : goal.returns-in_err-made-clause-err
returns-in_err-made-clause-err c =
    let p = err_from_is_err_and c.from_residual.result c.from_residual.ensures.1 in
    handed_on StuckFormula StuckWhole c.args.lexemes.now 0 0 c.from_residual.result p.0 c.in_err-made.field-0.0 (λ us h. InFormula h) p.1 p.2 c.in_err-made.ensures.err

pub returns-clause-ok : goal.returns-clause-ok
returns-clause-ok c =
    IsWhole-parsed c.args.lexemes.now c.in_ok-made.field-0 c.in_ok-made.ensures.ok c.if-next-lexemes.false

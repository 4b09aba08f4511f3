use Rattle.std.proofs.Common.{◌+◌, refl}
use Rattle.std.proofs.lemmas.Result.{err_from_is_err_and}
use Rattle.fort_formula_grammar.specs.StuckExpressions.{StuckExpression, StuckEnclosed}
use Rattle.fort_relations.specs.HolesView.{as_hole_number, as_hole_place}
use Rattle.fort_formula_parser.proofs.Levels.{handed_on}
use Rattle.fort_formula_parser.proofs.Expressions.{stuck_in_expression, stuck_expression_alone, stuck_no_number, stuck_number_alone, stuck_no_place, stuck_unended, IsEnclosedAt-ended}
use Rattle.fort_formula_parser.proofs.expression.enclosed.Goals as goal

pub returns-in_err-made-clause-err : goal.returns-in_err-made-clause-err
returns-in_err-made-clause-err c =
    let p = err_from_is_err_and c.from_residual.result c.from_residual.ensures.1 in
    handed_on StuckExpression StuckEnclosed c.args.lexemes.now (c.args.at + 1) c.args.at c.from_residual.result p.0 c.in_err-made.field-0.0
    (stuck_in_expression c.args.lexemes.now c.args.at c.requires) p.1 p.2 c.in_err-made.ensures.err

pub returns-then-not-is_next-clause-err : goal.returns-then-not-is_next-clause-err
returns-then-not-is_next-clause-err c =
    stuck_expression_alone c.args.lexemes.now c.args.at c.requires c.in_ok-made.field-0 c.in_ok-made.ensures.ok c.if-not-is_next.ensures

pub returns-in_default-clause-err : goal.returns-in_default-clause-err
returns-in_default-clause-err c =
    stuck_no_number c.args.lexemes.now c.args.at c.requires c.in_ok-made.field-0 c.in_ok-made.ensures.ok c.if-not-is_next.ensures c.in_default.ensures

pub returns-then-not-is_next-2-clause-err : goal.returns-then-not-is_next-2-clause-err
returns-then-not-is_next-2-clause-err c =
    stuck_number_alone c.args.lexemes.now c.args.at c.requires c.in_ok-made.field-0 c.in_ok-made.ensures.ok (as_hole_number c.in-Some.holes)
    c.if-not-is_next.ensures c.in-Some.ensures c.if-not-is_next-2.ensures

pub returns-in_default-place_at-clause-err : goal.returns-in_default-place_at-clause-err
returns-in_default-place_at-clause-err c =
    stuck_no_place c.args.lexemes.now c.args.at c.requires c.in_ok-made.field-0 c.in_ok-made.ensures.ok (as_hole_number c.in-Some.holes)
    c.if-not-is_next.ensures c.in-Some.ensures c.if-not-is_next-2.ensures c.in_default-place_at.ensures

pub returns-then-not-is_next-3-clause-err : goal.returns-then-not-is_next-3-clause-err
returns-then-not-is_next-3-clause-err c =
    stuck_unended c.args.lexemes.now c.args.at c.requires c.in_ok-made.field-0 c.in_ok-made.ensures.ok (as_hole_number c.in-Some.holes)
    (as_hole_place c.in-Some-place_at.place) c.if-not-is_next.ensures c.in-Some.ensures c.if-not-is_next-2.ensures c.in-Some-place_at.ensures
    c.if-not-is_next-3.ensures

pub returns-clause-ok : goal.returns-clause-ok
returns-clause-ok c =
    IsEnclosedAt-ended c.args.lexemes.now c.args.at c.requires c.in_ok-made.field-0 c.in_ok-made.ensures.ok _ c.if-not-is_next.ensures c.in-Some.ensures
    c.if-not-is_next-2.ensures c.in-Some-place_at.ensures c.if-not-is_next-3.ensures refl refl

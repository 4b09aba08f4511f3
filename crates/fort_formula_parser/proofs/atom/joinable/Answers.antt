use Rattle.std.proofs.Common.{refl}
use Rattle.fort_formula_parser.specs.Parsing.{argument_of}
use Rattle.fort_formula_parser.proofs.Atoms.{IsParsed-joinable, stuck_join_unopened, stuck_join_empty, stuck_join_of_one, stuck_join_half, stuck_join_unclosed}
use Rattle.fort_formula_parser.proofs.atom.joinable.Goals as goal

pub returns-then-not-is_next-clause-err : goal.returns-then-not-is_next-clause-err
returns-then-not-is_next-clause-err c =
    stuck_join_unopened c.args.lexemes.now c.args.at c.index_at-index.result c.index_at-index.ensures c.requires.here c.if-not-is_next.ensures

pub returns-in_default-clause-err : goal.returns-in_default-clause-err
returns-in_default-clause-err c =
    stuck_join_empty c.args.lexemes.now c.args.at c.index_at-index.result c.index_at-index.ensures c.requires.here c.if-not-is_next.ensures c.in_default.ensures

pub returns-then-not-is_next-2-clause-err : goal.returns-then-not-is_next-2-clause-err
returns-then-not-is_next-2-clause-err c =
    stuck_join_of_one c.args.lexemes.now c.args.at c.index_at-index.result c.index_at-index.ensures (argument_of c.in-Some.x) c.requires.here
    c.if-not-is_next.ensures c.in-Some.ensures c.if-not-is_next-2.ensures

pub returns-in_default-argument_at-clause-err : goal.returns-in_default-argument_at-clause-err
returns-in_default-argument_at-clause-err c =
    stuck_join_half c.args.lexemes.now c.args.at c.index_at-index.result c.index_at-index.ensures (argument_of c.in-Some.x) c.requires.here
    c.if-not-is_next.ensures c.in-Some.ensures c.if-not-is_next-2.ensures c.in_default-argument_at.ensures

pub returns-then-not-is_next-3-clause-err : goal.returns-then-not-is_next-3-clause-err
returns-then-not-is_next-3-clause-err c =
    stuck_join_unclosed c.args.lexemes.now c.args.at c.index_at-index.result c.index_at-index.ensures (argument_of c.in-Some.x) (argument_of c.in-Some-argument_at.y) c.requires.here
    c.if-not-is_next.ensures c.in-Some.ensures c.if-not-is_next-2.ensures c.in-Some-argument_at.ensures c.if-not-is_next-3.ensures

pub returns-clause-ok : goal.returns-clause-ok
returns-clause-ok c =
    let x = argument_of c.in-Some.x in
    let y = argument_of c.in-Some-argument_at.y in
    IsParsed-joinable c.args.lexemes.now c.args.at c.index_at-index.result c.index_at-index.ensures x y _ c.requires.here
    c.if-not-is_next.ensures c.in-Some.ensures c.if-not-is_next-2.ensures c.in-Some-argument_at.ensures c.if-not-is_next-3.ensures refl
    c.join.ensures

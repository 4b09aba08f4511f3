use Rattle.std.proofs.Common.{refl}
use Rattle.fort_formula_parser.specs.Parsing.{argument_of}
use Rattle.fort_formula_parser.proofs.Atoms.{IsParsed-all_terminating, IsParsed-terminating, stuck_sn_empty, stuck_sn_unclosed}
use Rattle.fort_formula_parser.proofs.atom.terminating.Goals as goal

pub returns-then-not-is_next-clause-ok : goal.returns-then-not-is_next-clause-ok
returns-then-not-is_next-clause-ok c =
    IsParsed-all_terminating c.args.lexemes.now c.args.at c.index_at-index.result c.index_at-index.ensures _ c.requires.here c.if-not-is_next.ensures refl refl

pub returns-in_default-clause-err : goal.returns-in_default-clause-err
returns-in_default-clause-err c =
    stuck_sn_empty c.args.lexemes.now c.args.at c.index_at-index.result c.index_at-index.ensures c.requires.here c.if-not-is_next.ensures c.in_default.ensures

pub returns-then-not-is_next-2-clause-err : goal.returns-then-not-is_next-2-clause-err
returns-then-not-is_next-2-clause-err c =
    stuck_sn_unclosed c.args.lexemes.now c.args.at c.index_at-index.result c.index_at-index.ensures (argument_of c.in-Some.x) c.requires.here
    c.if-not-is_next.ensures c.in-Some.ensures c.if-not-is_next-2.ensures

pub returns-clause-ok : goal.returns-clause-ok
returns-clause-ok c =
    IsParsed-terminating c.args.lexemes.now c.args.at c.index_at-index.result c.index_at-index.ensures (argument_of c.in-Some.x) _ c.requires.here
    c.if-not-is_next.ensures c.in-Some.ensures c.if-not-is_next-2.ensures refl c.sn.ensures

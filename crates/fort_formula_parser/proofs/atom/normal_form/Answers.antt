use Rattle.std.proofs.Common.{refl}
use Rattle.fort_formula_parser.specs.Parsing.{argument_of}
use Rattle.fort_formula_parser.proofs.Atoms.{IsParsed-normal_form, stuck_nf_unopened, stuck_nf_empty, stuck_nf_unclosed}
use Rattle.fort_formula_parser.proofs.atom.normal_form.Goals as goal

pub returns-then-not-is_next-clause-err : goal.returns-then-not-is_next-clause-err
returns-then-not-is_next-clause-err c =
    stuck_nf_unopened c.args.lexemes.now c.args.at c.index_at-index.result c.index_at-index.ensures c.requires.here c.if-not-is_next.ensures

pub returns-in_default-clause-err : goal.returns-in_default-clause-err
returns-in_default-clause-err c =
    stuck_nf_empty c.args.lexemes.now c.args.at c.index_at-index.result c.index_at-index.ensures c.requires.here c.if-not-is_next.ensures c.in_default.ensures

pub returns-then-not-is_next-2-clause-err : goal.returns-then-not-is_next-2-clause-err
returns-then-not-is_next-2-clause-err c =
    stuck_nf_unclosed c.args.lexemes.now c.args.at c.index_at-index.result c.index_at-index.ensures (argument_of c.in-Some.x) c.requires.here
    c.if-not-is_next.ensures c.in-Some.ensures c.if-not-is_next-2.ensures

pub returns-clause-ok : goal.returns-clause-ok
returns-clause-ok c =
    IsParsed-normal_form c.args.lexemes.now c.args.at c.index_at-index.result c.index_at-index.ensures (argument_of c.in-Some.x) _ c.requires.here
    c.if-not-is_next.ensures c.in-Some.ensures c.if-not-is_next-2.ensures refl c.nf.ensures

use Rattle.std.proofs.Common.{refl}
use Rattle.fort_formula_parser.specs.Parsing.{argument_of}
use Rattle.fort_formula_parser.proofs.Atoms.{IsParsed-compared, stuck_unrelated, stuck_related}
use Rattle.fort_formula_parser.proofs.atom.compared.Goals as goal

pub returns-in_default-clause-err : goal.returns-in_default-clause-err
returns-in_default-clause-err c = stuck_unrelated c.args.lexemes.now c.args.at (argument_of c.args.x) c.requires.here c.if-is_next.ensures c.in_default.ensures

pub returns-in_default-argument_at-clause-err : goal.returns-in_default-argument_at-clause-err
returns-in_default-argument_at-clause-err c =
    stuck_related c.args.lexemes.now c.args.at c.in-Some.field-0 (argument_of c.args.x) c.requires.here c.in-Some.ensures c.in_default-argument_at.ensures

pub returns-clause-ok : goal.returns-clause-ok
returns-clause-ok c =
    let found = c.in-Some.field-0 in
    let x = argument_of c.args.x in
    let y = argument_of c.in-Some-argument_at.y in
    IsParsed-compared c.args.lexemes.now c.args.at found x y _ c.requires.here c.in-Some.ensures c.in-Some-argument_at.ensures refl c.related.ensures

use Rattle.std.proofs.Common.{refl}
use Rattle.fort_formulas.specs.FormulaView.{as_property}
use Rattle.fort_formula_parser.proofs.Atoms.{IsParsed-property}
use Rattle.fort_formula_parser.proofs.atom.property_formula.Goals as goal

pub returns : goal.returns
returns c =
    IsParsed-property c.args.lexemes.now c.args.at (as_property c.args.property) c.index_at-index.result _ c.requires c.index_at-index.ensures refl refl

use Rattle.std.proofs.Common.{refl}
use Rattle.fort_formula_parser.proofs.Expressions.{IsExpressionAt-root}
use Rattle.fort_formula_parser.proofs.expression.root_steps.Goals as goal

pub returns : goal.returns
returns c = IsExpressionAt-root c.args.lexemes.now c.args.at c.index_at-index.result _ c.requires c.index_at-index.ensures refl refl

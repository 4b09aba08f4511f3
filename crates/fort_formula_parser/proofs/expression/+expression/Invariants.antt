use Rattle.std.proofs.Common.{◌+◌, ◌-◌, ◌*◌, length}
use Rattle.fort_formula_parser.proofs.expression.+expression.Given as goal

abbrev pub decreases-expression : goal.decreases-expression
decreases-expression l = 2 * (length l.lexemes.now - l.at) + 1

abbrev pub decreases-one_operand : goal.decreases-one_operand
decreases-one_operand l = 2 * (length l.lexemes.now - l.at)

abbrev pub decreases-two_operands : goal.decreases-two_operands
decreases-two_operands l = 2 * (length l.lexemes.now - l.at)

-- Inside: what reading an expression gives, seen by the relations of the grammar.
use Rattle.std.specs.Prelude.{◌≡◌, ℕ, ◌<◌, ◌≤◌, List, length, Result, IfOk}
use Rattle.std.specs.declared.alloc.AllocError.{AllocError}
use Rattle.fort_theory.specs.Expressions.{Expression}
use Rattle.fort_logic.specs.Formulas.{Name}
use Rattle.fort_formula_grammar.specs.ExpressionGrammar as grammar
use Rattle.fort_formula_grammar.specs.ExpressionGrammar.{root_word, one_word, two_word, IsExpression, IsEnclosed}
use Rattle.fort_relations.specs.declared.rex.Rex.{Rex}
use Rattle.fort_relations.specs.HolesView.{as_hole_number, as_hole_place}
use Rattle.fort_relations.specs.RexView.{as_expression}
use Rattle.fort_formula_parser.specs.declared.expression_word.OneOperand.{OneOperand}
use Rattle.fort_formula_parser.specs.declared.expression_word.OneOperand.TheVariants.{Inv, Clos}
use Rattle.fort_formula_parser.specs.declared.expression_word.TwoOperands.{TwoOperands}
use Rattle.fort_formula_parser.specs.declared.expression_word.TwoOperands.TheVariants as two
use Rattle.fort_formula_parser.specs.declared.expression_word.Head.{Head}
use Rattle.fort_formula_parser.specs.declared.expression_word.Head.TheVariants.{Root, One, Two}
use Rattle.fort_formula_parser.specs.declared.expression.RexReading.{RexReading}
use Rattle.fort_formula_parser.specs.declared.expression.EnclosedReading.{EnclosedReading}
use Rattle.fort_formula_parser.specs.declared.token.Lexeme.{Lexeme}
use Rattle.fort_formula_parser.specs.Parsing.{rest_of}

abbrev pub as_one : OneOperand → grammar.OneOperand
as_one Inv = grammar.Inv
as_one Clos = grammar.Clos

abbrev pub as_two : TwoOperands → grammar.TwoOperands
as_two two.Union = grammar.Uni
as_two two.Comp = grammar.Comp

abbrev pub head_word : Head → Name
head_word Root = root_word
head_word (One op) = one_word (as_one op)
head_word (Two op) = two_word (as_two op)

-- this expression was made, or memory was wanted for it
abbrev pub IsRexMade : Result Rex AllocError → Expression → Type 0
IsRexMade made e = IfOk made (λ r. as_expression r ≡ e)

-- from the place on the tokens are an expression, up to where the reading goes on, and it was made, or memory was wanted
pub record IsExpressionAt (lexemes : List Lexeme) (at : ℕ) (reading : RexReading) : Type 0 where
  pub further : at < reading.next
  pub within : reading.next ≤ length lexemes
  pub expression : Expression
  pub reads : IsExpression (rest_of lexemes at) expression (rest_of lexemes reading.next)
  pub is_made : IsRexMade reading.made expression

-- the same with an expression in its brackets
pub record IsEnclosedAt (lexemes : List Lexeme) (at : ℕ) (found : EnclosedReading) : Type 0 where
  pub further : at < found.next
  pub within : found.next ≤ length lexemes
  pub expression : Expression
  pub reads : IsEnclosed (rest_of lexemes at) expression (as_hole_number found.holes) (as_hole_place found.place) (rest_of lexemes found.next)
  pub is_made : IsRexMade found.made expression

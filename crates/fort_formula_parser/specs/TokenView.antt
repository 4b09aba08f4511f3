-- Inside: which token of the definitions a token of the program is.
use Rattle.std.specs.Prelude.{List, map}
use Rattle.fort_formula_grammar.specs.Tokens as grammar
use Rattle.fort_formulas.specs.FormulaView.{as_surface_rel, as_property}
use Rattle.fort_formula_parser.specs.declared.token.Token.{Token}
use Rattle.fort_formula_parser.specs.declared.token.Token.TheVariants.{Open, Close, Comma, Not, And, Or, Imp, Iff, Related, Begin, End, Index, Exists, Forall, Infinite, True, False, Nf, Join, Has, Com, Sn, Variable, Ground}
use Rattle.fort_formula_parser.specs.declared.token.Lexeme.{Lexeme}
use Rattle.fort_formula_parser.specs.declared.cursor.Mark.{Mark}
use Rattle.fort_formula_parser.specs.declared.cursor.Mark.TheVariants as marks

abbrev pub as_token : Token → grammar.Token
as_token Open = grammar.Open
as_token Close = grammar.Close
as_token Comma = grammar.Comma
as_token Not = grammar.Not
as_token And = grammar.And
as_token Or = grammar.Or
as_token Imp = grammar.Imp
as_token Iff = grammar.Iff
as_token (Related rel) = grammar.Related (as_surface_rel rel)
as_token Begin = grammar.Begin
as_token End = grammar.End
as_token (Index n) = grammar.Index n
as_token Exists = grammar.Exists
as_token Forall = grammar.Forall
as_token Infinite = grammar.Infinite
as_token True = grammar.True
as_token False = grammar.False
as_token Nf = grammar.Nf
as_token Join = grammar.Join
as_token (Has m) = grammar.Has (as_property m)
as_token Com = grammar.Com
as_token Sn = grammar.Sn
as_token (Variable name) = grammar.Variable name.now
as_token (Ground place text) = grammar.Ground place text.now

abbrev pub tokens_of : List Lexeme → List grammar.Token
tokens_of lexemes = map (λ lexeme. as_token lexeme.token) lexemes

abbrev pub as_mark : Mark → grammar.Token
as_mark marks.Open = grammar.Open
as_mark marks.Close = grammar.Close
as_mark marks.Comma = grammar.Comma
as_mark marks.And = grammar.And
as_mark marks.Or = grammar.Or
as_mark marks.Imp = grammar.Imp
as_mark marks.Iff = grammar.Iff
as_mark marks.Begin = grammar.Begin
as_mark marks.End = grammar.End

-- Nothing to believe: where reading an expression from left to right is stuck, one rule for each place where a word, a comma or a
-- bracket is wanted: the tokens are read up to those that follow, with the first of which, or with whose lack, no reading goes on.
use Rattle.std.specs.Prelude.{◌≡◌, List, ◌∷◌, Contains}
use Rattle.fort_theory.specs.Expressions.{Expression}
use Rattle.fort_logic.specs.Formulas.{Name}
use Rattle.fort_formula_grammar.specs.Tokens.{Token, Open, Close, Comma, Begin, End, Variable}
use Rattle.fort_formula_grammar.specs.ExpressionGrammar.{OneOperand, TwoOperands, one_word, two_word, expression_words, number_words, place_words, IsExpression}
use Rattle.fort_formula_grammar.specs.Continuations.{HasNoNext, HasNoWord}

pub data StuckExpression : List Token → List Token → Type 0 where
  NoExpression : {us : List Token} → HasNoWord expression_words us → StuckExpression us us
  OneUnopened : (op : OneOperand) → {x : Name} {us : List Token} → x ≡ one_word op → HasNoNext Open us → StuckExpression (Variable x ∷ us) us
  InOne : (op : OneOperand) → {x : Name} {ts us : List Token} → x ≡ one_word op → StuckExpression ts us → StuckExpression (Variable x ∷ Open ∷ ts) us
  OneUnclosed : (op : OneOperand) → {x : Name} {e : Expression} {ts us : List Token} → x ≡ one_word op → IsExpression ts e us → HasNoNext Close us
      → StuckExpression (Variable x ∷ Open ∷ ts) us
  TwoUnopened : (op : TwoOperands) → {x : Name} {us : List Token} → x ≡ two_word op → HasNoNext Open us → StuckExpression (Variable x ∷ us) us
  InFirst : (op : TwoOperands) → {x : Name} {ts us : List Token} → x ≡ two_word op → StuckExpression ts us
      → StuckExpression (Variable x ∷ Open ∷ ts) us
  FirstAlone : (op : TwoOperands) → {x : Name} {a : Expression} {ts us : List Token} → x ≡ two_word op → IsExpression ts a us → HasNoNext Comma us
      → StuckExpression (Variable x ∷ Open ∷ ts) us
  InSecond : (op : TwoOperands) → {x : Name} {a : Expression} {ts us vs : List Token} → x ≡ two_word op → IsExpression ts a (Comma ∷ us)
      → StuckExpression us vs → StuckExpression (Variable x ∷ Open ∷ ts) vs
  TwoUnclosed : (op : TwoOperands) → {x : Name} {a b : Expression} {ts us vs : List Token} → x ≡ two_word op → IsExpression ts a (Comma ∷ us)
      → IsExpression us b vs → HasNoNext Close vs → StuckExpression (Variable x ∷ Open ∷ ts) vs

pub data StuckEnclosed : List Token → List Token → Type 0 where
  InExpression : {ts us : List Token} → StuckExpression ts us → StuckEnclosed (Begin ∷ ts) us
  ExpressionAlone : {e : Expression} {ts us : List Token} → IsExpression ts e us → HasNoNext Comma us → StuckEnclosed (Begin ∷ ts) us
  NoNumber : {e : Expression} {ts us : List Token} → IsExpression ts e (Comma ∷ us) → HasNoWord number_words us → StuckEnclosed (Begin ∷ ts) us
  NumberAlone : {x : Name} {e : Expression} {ts us : List Token} → Contains number_words x → IsExpression ts e (Comma ∷ Variable x ∷ us)
      → HasNoNext Comma us → StuckEnclosed (Begin ∷ ts) us
  NoPlace : {x : Name} {e : Expression} {ts us : List Token} → Contains number_words x → IsExpression ts e (Comma ∷ Variable x ∷ Comma ∷ us)
      → HasNoWord place_words us → StuckEnclosed (Begin ∷ ts) us
  Unended : {x y : Name} {e : Expression} {ts us : List Token} → Contains number_words x → Contains place_words y
      → IsExpression ts e (Comma ∷ Variable x ∷ Comma ∷ Variable y ∷ us) → HasNoNext End us → StuckEnclosed (Begin ∷ ts) us

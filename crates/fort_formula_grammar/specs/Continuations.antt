-- Nothing to believe: which tokens go on with a reading that could end before them, and that no reading of a kind begins some tokens.
use Rattle.std.specs.Prelude.{◌≡◌, Bool, true, false, List, [], ◌∷◌, Contains}
use Rattle.fort_theory.specs.Expressions.{Expression}
use Rattle.fort_logic.specs.Formulas.{Name, Argument, Formula}
use Rattle.fort_formula_grammar.specs.Tokens.{Token, Close, Comma, And, Or, Imp, Iff, Related, Begin, End, Index, Variable}
use Rattle.fort_formula_grammar.specs.ExpressionGrammar.{IsExpression}
use Rattle.fort_formula_grammar.specs.FormulaGrammar.{Quantifier, IsArgument, IsFormula, IsImplication, IsDisjunction, IsConjunction, IsUnary, IsBound}

-- a conjunction that ends before these tokens can be read further
abbrev pub continues_conjunction : List Token → Bool
continues_conjunction [] = false
continues_conjunction (And ∷ ts) = true
continues_conjunction (t ∷ ts) = false

abbrev pub continues_disjunction : List Token → Bool
continues_disjunction [] = false
continues_disjunction (And ∷ ts) = true
continues_disjunction (Or ∷ ts) = true
continues_disjunction (t ∷ ts) = false

abbrev pub continues_implication : List Token → Bool
continues_implication [] = false
continues_implication (And ∷ ts) = true
continues_implication (Or ∷ ts) = true
continues_implication (Imp ∷ ts) = true
continues_implication (t ∷ ts) = false

abbrev pub continues_formula : List Token → Bool
continues_formula [] = false
continues_formula (And ∷ ts) = true
continues_formula (Or ∷ ts) = true
continues_formula (Imp ∷ ts) = true
continues_formula (Iff ∷ ts) = true
continues_formula (t ∷ ts) = false

-- a unary formula can begin with this token
abbrev pub begins_unary : Token → Bool
begins_unary Close = false
begins_unary Comma = false
begins_unary And = false
begins_unary Or = false
begins_unary Imp = false
begins_unary Iff = false
begins_unary (Related rel) = false
begins_unary Begin = false
begins_unary End = false
begins_unary (Index n) = false
begins_unary t = true

-- a relation can begin with the next token
abbrev pub begins_relation : List Token → Bool
begins_relation [] = false
begins_relation (Related rel ∷ ts) = true
begins_relation (Begin ∷ ts) = true
begins_relation (t ∷ ts) = false

-- the next token isn't this one
abbrev pub HasNoNext : Token → List Token → Type 0
HasNoNext t ts = (rest : List Token) → ts ≡ t ∷ rest → ⊥

-- the next token is no variable
abbrev pub HasNoVariable : List Token → Type 0
HasNoVariable ts = (x : Name) (rest : List Token) → ts ≡ Variable x ∷ rest → ⊥

-- no argument begins the tokens
abbrev pub HasNoArgument : List Token → Type 0
HasNoArgument ts = (a : Argument) (us : List Token) → IsArgument ts a us → ⊥

-- no expression begins the tokens
abbrev pub HasNoExpression : List Token → Type 0
HasNoExpression ts = (e : Expression) (us : List Token) → IsExpression ts e us → ⊥

-- the next token isn't one of these words
abbrev pub HasNoWord : List Name → List Token → Type 0
HasNoWord words ts = (x : Name) (rest : List Token) → Contains words x → ts ≡ Variable x ∷ rest → ⊥

abbrev pub HasNoUnary : List Token → Type 0
HasNoUnary ts = (f : Formula) (us : List Token) → IsUnary ts f us → ⊥

abbrev pub HasNoBound : Quantifier → List Token → Type 0
HasNoBound q ts = (f : Formula) (us : List Token) → IsBound q ts f us → ⊥

-- the others speak of readings that can't go on
abbrev pub HasNoConjunction : List Token → Type 0
HasNoConjunction ts = (f : Formula) (us : List Token) → IsConjunction ts f us → continues_conjunction us ≡ false → ⊥

abbrev pub HasNoDisjunction : List Token → Type 0
HasNoDisjunction ts = (f : Formula) (us : List Token) → IsDisjunction ts f us → continues_disjunction us ≡ false → ⊥

abbrev pub HasNoImplication : List Token → Type 0
HasNoImplication ts = (f : Formula) (us : List Token) → IsImplication ts f us → continues_implication us ≡ false → ⊥

abbrev pub HasNoFormula : List Token → Type 0
HasNoFormula ts = (f : Formula) (us : List Token) → IsFormula ts f us → continues_formula us ≡ false → ⊥

-- Nothing to believe: where a reading from left to right is stuck, one rule for each place where a token is wanted. Each relation
-- says that tokens are read as a formula of its kind up to the tokens that follow, with the first of which, or with whose lack,
-- no reading goes on. That this is the first place with which no formula goes on is proved.
use Rattle.std.specs.Prelude.{◌≡◌, ℕ, Bool, false, List, [], ◌∷◌}
use Rattle.fort_logic.specs.Formulas.{Name, Argument, Formula}
use Rattle.fort_formula_grammar.specs.Tokens.{Token, Open, Close, Comma, Not, And, Or, Imp, Iff, Exists, Forall, Infinite, Nf, Join, Sn, Variable}
use Rattle.fort_formula_grammar.specs.ExpressionGrammar.{IsIndex}
use Rattle.fort_formula_grammar.specs.FormulaGrammar.{Comparison, IsArgument, IsRelation, IsFormula, IsImplication, IsDisjunction, IsConjunction}
use Rattle.fort_formula_grammar.specs.Continuations.{continues_formula, begins_unary, begins_relation, HasNoNext, HasNoVariable, HasNoArgument}
use Rattle.fort_formula_grammar.specs.StuckExpressions.{StuckEnclosed}

-- a unary formula can begin with the first token
abbrev pub starts_unary : List Token → Bool
starts_unary [] = false
starts_unary (t ∷ ts) = begins_unary t

mutual
  pub data StuckFormula : List Token → List Token → Type 0 where
    OnTheLeft : {ts us : List Token} → StuckImplication ts us → StuckFormula ts us
    OnTheRight : {ts us vs : List Token} {f : Formula} → IsImplication ts f (Iff ∷ us) → StuckImplication us vs → StuckFormula ts vs
    SecondIff : {ts us vs : List Token} {f g : Formula} → IsImplication ts f (Iff ∷ us) → IsImplication us g (Iff ∷ vs)
        → StuckFormula ts (Iff ∷ vs)

  pub data StuckImplication : List Token → List Token → Type 0 where
    InPremise : {ts us : List Token} → StuckDisjunction ts us → StuckImplication ts us
    InConclusion : {ts us vs : List Token} {f : Formula} → IsDisjunction ts f (Imp ∷ us) → StuckImplication us vs → StuckImplication ts vs

  pub data StuckDisjunction : List Token → List Token → Type 0 where
    InFirstOr : {ts us : List Token} → StuckConjunction ts us → StuckDisjunction ts us
    InMoreOr : {ts us vs : List Token} {f : Formula} → IsDisjunction ts f (Or ∷ us) → StuckConjunction us vs → StuckDisjunction ts vs

  pub data StuckConjunction : List Token → List Token → Type 0 where
    InFirstAnd : {ts us : List Token} → StuckUnary ts us → StuckConjunction ts us
    InMoreAnd : {ts us vs : List Token} {f : Formula} → IsConjunction ts f (And ∷ us) → StuckUnary us vs → StuckConjunction ts vs

  pub data StuckUnary : List Token → List Token → Type 0 where
    NoUnary : {us : List Token} → starts_unary us ≡ false → StuckUnary us us
    UnderNot : {ts us : List Token} → StuckUnary ts us → StuckUnary (Not ∷ ts) us
    UnderExists : {ts us : List Token} → StuckBinders ts us → StuckUnary (Exists ∷ ts) us
    UnderForall : {ts us : List Token} → StuckBinders ts us → StuckUnary (Forall ∷ ts) us
    NoInfiniteVariable : {us : List Token} → HasNoVariable us → StuckUnary (Infinite ∷ us) us
    UnderInfinite : {x : Name} {ts us : List Token} → StuckBody ts us → StuckUnary (Infinite ∷ Variable x ∷ ts) us
    Within : {ts us : List Token} → StuckBody (Open ∷ ts) us → StuckUnary (Open ∷ ts) us
    NfUnopened : {index : ℕ} {ts us : List Token} → IsIndex ts index us → HasNoNext Open us → StuckUnary (Nf ∷ ts) us
    NfWithoutArgument : {index : ℕ} {ts us : List Token} → IsIndex ts index (Open ∷ us) → HasNoArgument us → StuckUnary (Nf ∷ ts) us
    NfUnclosed : {a : Argument} {index : ℕ} {ts us vs : List Token} → IsIndex ts index (Open ∷ us) → IsArgument us a vs
        → HasNoNext Close vs → StuckUnary (Nf ∷ ts) vs
    SnWithoutArgument : {index : ℕ} {ts us : List Token} → IsIndex ts index (Open ∷ us) → HasNoArgument us → StuckUnary (Sn ∷ ts) us
    SnUnclosed : {a : Argument} {index : ℕ} {ts us vs : List Token} → IsIndex ts index (Open ∷ us) → IsArgument us a vs
        → HasNoNext Close vs → StuckUnary (Sn ∷ ts) vs
    JoinUnopened : {index : ℕ} {ts us : List Token} → IsIndex ts index us → HasNoNext Open us → StuckUnary (Join ∷ ts) us
    JoinWithoutArgument : {index : ℕ} {ts us : List Token} → IsIndex ts index (Open ∷ us) → HasNoArgument us → StuckUnary (Join ∷ ts) us
    JoinOfOne : {a : Argument} {index : ℕ} {ts us vs : List Token} → IsIndex ts index (Open ∷ us) → IsArgument us a vs
        → HasNoNext Comma vs → StuckUnary (Join ∷ ts) vs
    JoinHalf : {a : Argument} {index : ℕ} {ts us vs : List Token} → IsIndex ts index (Open ∷ us) → IsArgument us a (Comma ∷ vs)
        → HasNoArgument vs → StuckUnary (Join ∷ ts) vs
    JoinUnclosed : {a b : Argument} {index : ℕ} {ts us vs ws : List Token} → IsIndex ts index (Open ∷ us) → IsArgument us a (Comma ∷ vs)
        → IsArgument vs b ws → HasNoNext Close ws → StuckUnary (Join ∷ ts) ws
    Unrelated : {a : Argument} {ts us : List Token} → IsArgument ts a us → begins_relation us ≡ false → StuckUnary ts us
    InRelation : {a : Argument} {ts us vs : List Token} → IsArgument ts a us → StuckEnclosed us vs → StuckUnary ts vs
    RelatedToNothing : {a : Argument} {r : Comparison} {ts us vs : List Token} → IsArgument ts a us → IsRelation us r vs → HasNoArgument vs
        → StuckUnary ts vs

  pub data StuckBinders : List Token → List Token → Type 0 where
    NoBinder : {us : List Token} → HasNoVariable us → StuckBinders us us
    InMoreBinders : {x : Name} {ts us : List Token} → StuckBinders ts us → StuckBinders (Variable x ∷ Comma ∷ ts) us
    BehindBinders : {x : Name} {ts us : List Token} → HasNoNext Comma ts → StuckBody ts us → StuckBinders (Variable x ∷ ts) us

  -- a formula in parentheses
  pub data StuckBody : List Token → List Token → Type 0 where
    Unopened : {us : List Token} → HasNoNext Open us → StuckBody us us
    Inside : {ts us : List Token} → StuckFormula ts us → StuckBody (Open ∷ ts) us
    Unclosed : {f : Formula} {ts us : List Token} → IsFormula ts f us → continues_formula us ≡ false → HasNoNext Close us
        → StuckBody (Open ∷ ts) us

-- all tokens are to be one formula
pub data StuckWhole : List Token → List Token → Type 0 where
  InFormula : {ts us : List Token} → StuckFormula ts us → StuckWhole ts us
  BehindFormula : {f : Formula} {ts us : List Token} {t : Token} → IsFormula ts f (t ∷ us) → continues_formula (t ∷ us) ≡ false
      → StuckWhole ts (t ∷ us)

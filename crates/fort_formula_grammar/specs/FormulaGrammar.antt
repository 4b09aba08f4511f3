-- To believe: which tokens are which formula, one relation for each production, which says that the tokens begin with a formula of its kind, and which tokens follow it.
use Rattle.std.specs.Prelude as option
use Rattle.std.specs.Prelude.{◌≡◌, ℕ, Bool, true, false, List, [], ◌∷◌}
use Rattle.fort_logic.specs.Formulas as theory
use Rattle.fort_logic.specs.Formulas.{Name, Argument, Formula, Property, SurfaceRel}
use Rattle.fort_theory.specs.Expressions.{Expression}
use Rattle.fort_theory.specs.Contexts.{HoleNumber, HolePlace}
use Rattle.fort_formula_grammar.specs.ExpressionGrammar.{IsIndex, IsEnclosed}
use Rattle.fort_formula_grammar.specs.Tokens.{Token, Open, Close, Comma, Not, And, Or, Imp, Iff, Related, Exists, Forall, Infinite, True, False, Nf, Join, Has, Com, Sn, Variable, Ground}

-- "exists" and "forall"
pub data Quantifier : Type 0 where
  Some : Quantifier
  Every : Quantifier

abbrev pub quantified : Quantifier → Name → Formula → Formula
quantified Some x f = theory.Exists x f
quantified Every x f = theory.Forall x f

-- a ( is the next token
abbrev pub begins_with_open : List Token → Bool
begins_with_open [] = false
begins_with_open (Open ∷ ts) = true
begins_with_open (t ∷ ts) = false

-- equality isn't about rules
abbrev pub takes_index : SurfaceRel → Bool
takes_index theory.Eq = false
takes_index rel = true

-- how two arguments are related: by the rules of an index, or by an expression in a context
pub data Comparison : Type 0 where
  ByRules : SurfaceRel → (index : ℕ) → Comparison
  ByExpression : Expression → HoleNumber → HolePlace → Comparison

abbrev pub compared : Comparison → Argument → Argument → Formula
compared (ByRules rel index) a b = theory.Related rel a b index
compared (ByExpression e number place) a b = theory.InContext e number place a b

-- rel := "=" | one of the other relations [index] | "<<" .. ">>"
pub data IsRelation : List Token → Comparison → List Token → Type 0 where
  WithoutIndex : {rel : SurfaceRel} {us : List Token} → takes_index rel ≡ false → IsRelation (Related rel ∷ us) (ByRules rel 1) us
  WithIndex : {rel : SurfaceRel} {index : ℕ} {ts us : List Token} → takes_index rel ≡ true → IsIndex ts index us
      → IsRelation (Related rel ∷ ts) (ByRules rel index) us
  OfExpression : {e : Expression} {number : HoleNumber} {place : HolePlace} {ts us : List Token} → IsEnclosed ts e number place us
      → IsRelation ts (ByExpression e number place) us

-- arg := var | a ground term
pub data IsArgument : List Token → Argument → List Token → Type 0 where
  AVariable : {x : Name} {us : List Token} → IsArgument (Variable x ∷ us) (theory.Var x) us
  AGround : {place : ℕ} {text : List ℕ} {us : List Token} → IsArgument (Ground place text ∷ us) (theory.Ground place) us

mutual
  -- formula := imp | imp "<=>" imp
  pub data IsFormula : List Token → Formula → List Token → Type 0 where
    OneSide : {ts us : List Token} {f : Formula} → IsImplication ts f us → IsFormula ts f us
    BothSides : {ts us vs : List Token} {f g : Formula} → IsImplication ts f (Iff ∷ us) → IsImplication us g vs
        → IsFormula ts (theory.Iff f g) vs

  -- imp := or | or "=>" imp
  pub data IsImplication : List Token → Formula → List Token → Type 0 where
    Conclusion : {ts us : List Token} {f : Formula} → IsDisjunction ts f us → IsImplication ts f us
    Premise : {ts us vs : List Token} {f g : Formula} → IsDisjunction ts f (Imp ∷ us) → IsImplication us g vs
        → IsImplication ts (theory.Imp f g) vs

  -- or := and | or "|" and
  pub data IsDisjunction : List Token → Formula → List Token → Type 0 where
    FirstOr : {ts us : List Token} {f : Formula} → IsConjunction ts f us → IsDisjunction ts f us
    MoreOr : {ts us vs : List Token} {f g : Formula} → IsDisjunction ts f (Or ∷ us) → IsConjunction us g vs
        → IsDisjunction ts (theory.Or f g) vs

  -- and := unary | and "&" unary
  pub data IsConjunction : List Token → Formula → List Token → Type 0 where
    FirstAnd : {ts us : List Token} {f : Formula} → IsUnary ts f us → IsConjunction ts f us
    MoreAnd : {ts us vs : List Token} {f g : Formula} → IsConjunction ts f (And ∷ us) → IsUnary us g vs
        → IsConjunction ts (theory.And f g) vs

  -- unary := "~" unary | ("exists" | "forall") binders | "infinite" var "(" formula ")" | "(" formula ")" | "true" | "false"
  --   | a property [index] | "COM" | "SN" [index] | "SN" [index] "(" arg ")" | "NF" [index] "(" arg ")"
  --   | "JOIN" [index] "(" arg "," arg ")" | arg rel arg
  pub data IsUnary : List Token → Formula → List Token → Type 0 where
    Negated : {ts us : List Token} {f : Formula} → IsUnary ts f us → IsUnary (Not ∷ ts) (theory.Not f) us
    ForSome : {ts us : List Token} {f : Formula} → IsBound Some ts f us → IsUnary (Exists ∷ ts) f us
    ForEvery : {ts us : List Token} {f : Formula} → IsBound Every ts f us → IsUnary (Forall ∷ ts) f us
    Infinitely : {x : Name} {ts us : List Token} {f : Formula} → IsFormula ts f (Close ∷ us)
        → IsUnary (Infinite ∷ Variable x ∷ Open ∷ ts) (theory.Infinite x f) us
    Enclosed : {ts us : List Token} {f : Formula} → IsFormula ts f (Close ∷ us) → IsUnary (Open ∷ ts) f us
    Truth : {us : List Token} → IsUnary (True ∷ us) theory.True us
    Falsity : {us : List Token} → IsUnary (False ∷ us) theory.False us
    Named : {p : Property} {index : ℕ} {ts us : List Token} → IsIndex ts index us → IsUnary (Has p ∷ ts) (theory.Has p index) us
    Commuting : {us : List Token} → IsUnary (Com ∷ us) theory.Com us
    -- that no ( stands there makes readings from the left unique; which tokens are a whole formula doesn't rest on it
    AllTerminating : {index : ℕ} {ts us : List Token} → IsIndex ts index us → begins_with_open us ≡ false → IsUnary (Sn ∷ ts) (theory.Sn option.None index) us
    Terminating : {a : Argument} {index : ℕ} {ts us vs : List Token} → IsIndex ts index (Open ∷ us) → IsArgument us a (Close ∷ vs)
        → IsUnary (Sn ∷ ts) (theory.Sn (option.Some a) index) vs
    NormalForm : {a : Argument} {index : ℕ} {ts us vs : List Token} → IsIndex ts index (Open ∷ us) → IsArgument us a (Close ∷ vs)
        → IsUnary (Nf ∷ ts) (theory.Nf a index) vs
    Joinable : {a b : Argument} {index : ℕ} {ts us vs ws : List Token} → IsIndex ts index (Open ∷ us) → IsArgument us a (Comma ∷ vs)
        → IsArgument vs b (Close ∷ ws) → IsUnary (Join ∷ ts) (theory.Join a b index) ws
    Compared : {a b : Argument} {r : Comparison} {ts us vs ws : List Token} → IsArgument ts a us → IsRelation us r vs → IsArgument vs b ws
        → IsUnary ts (compared r a b) ws

  -- binders := var "(" formula ")" | var "," binders
  pub data IsBound : Quantifier → List Token → Formula → List Token → Type 0 where
    LastBinder : {q : Quantifier} {x : Name} {ts us : List Token} {f : Formula} → IsFormula ts f (Close ∷ us)
        → IsBound q (Variable x ∷ Open ∷ ts) (quantified q x f) us
    MoreBinders : {q : Quantifier} {x : Name} {ts us : List Token} {f : Formula} → IsBound q ts f us
        → IsBound q (Variable x ∷ Comma ∷ ts) (quantified q x f) us

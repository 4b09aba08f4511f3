-- Reading is local: what was read as a formula of a kind is read as it too where other tokens follow, unless an index or a ( is the first of them.
use Rattle.std.proofs.Common.{◌≡◌, ℕ, false, List, [], ◌∷◌}
use Rattle.fort_logic.specs.Formulas.{Argument, Formula}
use Rattle.fort_formula_grammar.specs.Tokens.{Token, Open, Comma, Not, Related, Exists, Forall, Infinite, True, False, Nf, Join, Has, Com, Sn, Variable, Ground}
use Rattle.fort_formula_grammar.specs.ExpressionGrammar.{IsIndex}
use Rattle.fort_formula_grammar.specs.FormulaGrammar.{Quantifier, begins_with_open, Comparison, compared, IsRelation, WithoutIndex, WithIndex, OfExpression, IsArgument, AVariable, AGround, IsFormula, IsImplication, IsDisjunction, IsConjunction, IsUnary, IsBound, OneSide, BothSides, Conclusion, Premise, FirstOr, MoreOr, FirstAnd, MoreAnd, Negated, ForSome, ForEvery, Infinitely, Enclosed, Truth, Falsity, Named, Commuting, AllTerminating, Terminating, NormalForm, Joinable, Compared, LastBinder, MoreBinders}
use Rattle.fort_formula_grammar.proofs.LocalParts.{Local, Local-map, Local-token, Local-front, Local-back, Local-then, still_false, index-local}
use Rattle.fort_formula_grammar.proofs.ExpressionLocal.{enclosed-local}

-- an index, and no ( behind it
unopened-local : {ts us : List Token} {n : ℕ} → IsIndex ts n us → begins_with_open us ≡ false
    → Local (λ x z. IsIndex x n z × (begins_with_open z ≡ false)) ts us
unopened-local {us = us} i none =
    let r = index-local i in
    record {
      read = r.read;
      is = r.is;
      again = λ vs h. (r.again vs h, still_false (begins_with_open vs) (begins_with_open us) h.1 none);
    }

pub argument-local : {ts us : List Token} {a : Argument} → IsArgument ts a us → Local (λ x z. IsArgument x a z) ts us
argument-local (AVariable {x = x}) = Local-token (Variable x) (λ z. AVariable)
argument-local (AGround {place = k} {text = text}) = Local-token (Ground k text) (λ z. AGround)

pub relation-local : {ts us : List Token} {r : Comparison} → IsRelation ts r us → Local (λ x z. IsRelation x r z) ts us
relation-local (WithoutIndex {rel = rel} e) = Local-token (Related rel) (λ z. WithoutIndex e)
relation-local (WithIndex {rel = rel} e i) = Local-front (Related rel ∷ []) (index-local i) (λ x z p. WithIndex e p)
relation-local (OfExpression e) = Local-map (enclosed-local e) (λ x z p. OfExpression p)

comparison-local : {ts us vs ws : List Token} {a b : Argument} {r : Comparison} → IsArgument ts a us → IsRelation us r vs
    → IsArgument vs b ws → Local (λ x z. IsUnary x (compared r a b) z) ts ws
comparison-local (AVariable {x = x}) r AVariable =
    Local-front (Variable x ∷ []) (Local-back (relation-local r)) (λ y z p. Compared AVariable p AVariable)
comparison-local (AVariable {x = x}) r AGround =
    Local-front (Variable x ∷ []) (Local-back (relation-local r)) (λ y z p. Compared AVariable p AGround)
comparison-local (AGround {place = k} {text = text}) r AVariable =
    Local-front (Ground k text ∷ []) (Local-back (relation-local r)) (λ y z p. Compared AGround p AVariable)
comparison-local (AGround {place = k} {text = text}) r AGround =
    Local-front (Ground k text ∷ []) (Local-back (relation-local r)) (λ y z p. Compared AGround p AGround)

mutual
  pub formula-local : {ts us : List Token} {f : Formula} → IsFormula ts f us → Local (λ x z. IsFormula x f z) ts us
  formula-local (OneSide i) = Local-map (implication-local i) (λ x z p. OneSide p)
  formula-local (BothSides i j) = Local-map (Local-then (implication-local i) (implication-local j)) (λ x z p. BothSides p.1.0 p.1.1)

  pub implication-local : {ts us : List Token} {f : Formula} → IsImplication ts f us → Local (λ x z. IsImplication x f z) ts us
  implication-local (Conclusion d) = Local-map (disjunction-local d) (λ x z p. Conclusion p)
  implication-local (Premise d i) = Local-map (Local-then (disjunction-local d) (implication-local i)) (λ x z p. Premise p.1.0 p.1.1)

  pub disjunction-local : {ts us : List Token} {f : Formula} → IsDisjunction ts f us → Local (λ x z. IsDisjunction x f z) ts us
  disjunction-local (FirstOr c) = Local-map (conjunction-local c) (λ x z p. FirstOr p)
  disjunction-local (MoreOr d c) = Local-map (Local-then (disjunction-local d) (conjunction-local c)) (λ x z p. MoreOr p.1.0 p.1.1)

  pub conjunction-local : {ts us : List Token} {f : Formula} → IsConjunction ts f us → Local (λ x z. IsConjunction x f z) ts us
  conjunction-local (FirstAnd u) = Local-map (unary-local u) (λ x z p. FirstAnd p)
  conjunction-local (MoreAnd c u) = Local-map (Local-then (conjunction-local c) (unary-local u)) (λ x z p. MoreAnd p.1.0 p.1.1)

  unary-local : {ts us : List Token} {f : Formula} → IsUnary ts f us → Local (λ x z. IsUnary x f z) ts us
  unary-local (Negated u) = Local-front (Not ∷ []) (unary-local u) (λ x z p. Negated p)
  unary-local (ForSome b) = Local-front (Exists ∷ []) (bound-local b) (λ x z p. ForSome p)
  unary-local (ForEvery b) = Local-front (Forall ∷ []) (bound-local b) (λ x z p. ForEvery p)
  unary-local (Infinitely {x = x} d) =
      Local-front (Infinite ∷ Variable x ∷ Open ∷ []) (Local-back (formula-local d)) (λ x z p. Infinitely p)
  unary-local (Enclosed d) = Local-front (Open ∷ []) (Local-back (formula-local d)) (λ x z p. Enclosed p)
  unary-local Truth = Local-token True (λ z. Truth)
  unary-local Falsity = Local-token False (λ z. Falsity)
  unary-local (Named {p = p} i) = Local-front (Has p ∷ []) (index-local i) (λ x z p. Named p)
  unary-local Commuting = Local-token Com (λ z. Commuting)
  unary-local (AllTerminating i none) = Local-front (Sn ∷ []) (unopened-local i none) (λ x z p. AllTerminating p.0 p.1)
  unary-local (Terminating i a) =
      Local-front (Sn ∷ []) (Local-then (index-local i) (Local-back (argument-local a))) (λ x z p. Terminating p.1.0 p.1.1)
  unary-local (NormalForm i a) =
      Local-front (Nf ∷ []) (Local-then (index-local i) (Local-back (argument-local a))) (λ x z p. NormalForm p.1.0 p.1.1)
  unary-local (Joinable i a b) =
      Local-front (Join ∷ []) (Local-then (index-local i) (Local-then (argument-local a) (Local-back (argument-local b))))
      (λ x z p. Joinable p.1.0 p.1.1.1.0 p.1.1.1.1)
  unary-local (Compared a r b) = comparison-local a r b

  bound-local : {q : Quantifier} {ts us : List Token} {f : Formula} → IsBound q ts f us → Local (λ x z. IsBound q x f z) ts us
  bound-local (LastBinder {x = x} d) = Local-front (Variable x ∷ Open ∷ []) (Local-back (formula-local d)) (λ x z p. LastBinder p)
  bound-local (MoreBinders {x = x} b) = Local-front (Variable x ∷ Comma ∷ []) (bound-local b) (λ x z p. MoreBinders p)

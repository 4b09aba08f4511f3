-- Where a reading is stuck it is so before any tokens that begin alike, and what was read can be completed.
use Rattle.std.proofs.Common.{◌≡◌, false, List, [], ◌∷◌, ◌++◌, codes, refl, sym, ap, subst}
use Rattle.fort_logic.specs.Formulas as theory
use Rattle.fort_logic.specs.Formulas.{Name, Argument, Formula}
use Rattle.fort_formula_grammar.specs.Tokens.{Token, Open, Close, Comma, Not, Iff, Related, Exists, Forall, Infinite, True, Nf, Join, Sn, Variable, Ground}
use Rattle.fort_formula_grammar.specs.FormulaGrammar as grammar
use Rattle.fort_formula_grammar.specs.FormulaGrammar.{Quantifier, quantified, Comparison, IsRelation, WithoutIndex, OfExpression, IsArgument, AVariable, AGround, IsFormula, IsImplication, IsDisjunction, IsConjunction, IsUnary, IsBound, OneSide, BothSides, Conclusion, Premise, FirstOr, MoreOr, FirstAnd, MoreAnd, Negated, ForSome, ForEvery, Infinitely, Enclosed, Truth, Terminating, NormalForm, Joinable, Compared, LastBinder, MoreBinders}
use Rattle.fort_formula_grammar.specs.Continuations.{continues_formula, HasNoNext, HasNoArgument}
use Rattle.fort_formula_grammar.specs.StuckExpressions.{StuckEnclosed}
use Rattle.fort_formula_grammar.specs.Stuck.{StuckFormula, StuckImplication, StuckDisjunction, StuckConjunction, StuckUnary, StuckBinders, StuckBody, StuckWhole, OnTheLeft, OnTheRight, SecondIff, InPremise, InConclusion, InFirstOr, InMoreOr, InFirstAnd, InMoreAnd, NoUnary, UnderNot, UnderExists, UnderForall, NoInfiniteVariable, UnderInfinite, Within, NfUnopened, NfWithoutArgument, NfUnclosed, SnWithoutArgument, SnUnclosed, JoinUnopened, JoinWithoutArgument, JoinOfOne, JoinHalf, JoinUnclosed, Unrelated, InRelation, RelatedToNothing, NoBinder, InMoreBinders, BehindBinders, Unopened, Inside, Unclosed, InFormula, BehindFormula}
use Rattle.fort_formula_grammar.proofs.LocalParts.{Local-back, Local-then, index-again, index-local}
use Rattle.fort_formula_grammar.proofs.LocalReadings.{argument-local, relation-local, formula-local, implication-local, disjunction-local, conjunction-local}
use Rattle.fort_formula_grammar.proofs.FirstTokens.{SameFirst, BothBegin, SameFirst-append, ended_same, unstarted_same, next_same, variable_same, argument_same, unrelated_same}
use Rattle.fort_formula_grammar.proofs.StuckReadings.{IsStuck, IsStuck-map, IsStuck-front, IsStuck-then, IsStuck-here, IsStuck-behind, IsStuck-closed, IsStuck-unopened}
use Rattle.fort_formula_grammar.proofs.StuckExpressionLaws.{AnEnclosed, StuckEnclosed-local}

-- a formula in parentheses
pub data IsBody : List Token → Formula → List Token → Type 0 where
  Parenthesized : {ts us : List Token} {f : Formula} → IsFormula ts f (Close ∷ us) → IsBody (Open ∷ ts) f us

abbrev AFormula : List Token → List Token → Type 0
AFormula ts us = (f : Formula) × IsFormula ts f us

abbrev AnImplication : List Token → List Token → Type 0
AnImplication ts us = (f : Formula) × IsImplication ts f us

abbrev ADisjunction : List Token → List Token → Type 0
ADisjunction ts us = (f : Formula) × IsDisjunction ts f us

abbrev AConjunction : List Token → List Token → Type 0
AConjunction ts us = (f : Formula) × IsConjunction ts f us

abbrev AUnary : List Token → List Token → Type 0
AUnary ts us = (f : Formula) × IsUnary ts f us

abbrev ABound : List Token → List Token → Type 0
ABound ts us = (q : Quantifier) → (f : Formula) × IsBound q ts f us

abbrev ABody : List Token → List Token → Type 0
ABody ts us = (f : Formula) × IsBody ts f us

-- what completes readings: a variable, and "true"
some_name : Name
some_name = codes "x"

truth : (us : List Token) → IsFormula (True ∷ us) theory.True us
truth us = OneSide (Conclusion (FirstOr (FirstAnd Truth)))

infinite_body : {x : Name} {ts us : List Token} {f : Formula} → IsBody ts f us
    → IsUnary (Infinite ∷ Variable x ∷ ts) (theory.Infinite x f) us
infinite_body (Parenthesized d) = Infinitely d

enclosed_body : {ts us : List Token} {f : Formula} → IsBody ts f us → IsUnary ts f us
enclosed_body (Parenthesized d) = Enclosed d

bound_body : {q : Quantifier} {x : Name} {ts us : List Token} {f : Formula} → IsBody ts f us
    → IsBound q (Variable x ∷ ts) (quantified q x f) us
bound_body (Parenthesized d) = LastBinder d

second_iff : {ts us vs ws : List Token} {f g : Formula} → SameFirst (Iff ∷ us) vs → IsImplication ts f (Iff ∷ ws)
    → IsImplication ws g vs → StuckFormula ts vs
second_iff BothBegin i j = SecondIff i j

behind_formula : {t : Token} {us ts vs : List Token} {f : Formula} → SameFirst (t ∷ us) vs → continues_formula vs ≡ false
    → IsFormula ts f vs → StuckWhole ts vs
behind_formula BothBegin e d = BehindFormula d e

within_open : {ts us vs : List Token} → SameFirst (Open ∷ ts) us → StuckBody us vs → StuckUnary us vs
within_open BothBegin s = Within s

-- the tokens begin as they do where others that begin alike follow what was read
same_front : {K X : List Token → List Token → Type 0} {ts us vs : List Token} → (s : IsStuck K X ts us) → SameFirst us vs
    → SameFirst ts (s.read ++ vs)
same_front {us = us} {vs = vs} s h = subst (λ w. SameFirst w (s.read ++ vs)) (sym s.is) (SameFirst-append s.read us vs h)

within : {ts us : List Token} → IsStuck StuckBody ABody (Open ∷ ts) us → IsStuck StuckUnary AUnary (Open ∷ ts) us
within s = record {
  read = s.read;
  is = s.is;
  again = λ vs h. within_open (same_front s h) (s.again vs h);
  more = s.more;
  whole = λ vs h. let d = s.whole vs h in (d.0, enclosed_body d.1);
}

behind_binders : {x : Name} {ts us : List Token} → HasNoNext Comma ts → IsStuck StuckBody ABody ts us
    → IsStuck StuckBinders ABound (Variable x ∷ ts) us
behind_binders {x} none s = record {
  read = Variable x ∷ s.read;
  is = ap (λ w. Variable x ∷ w) s.is;
  again = λ vs h. BehindBinders (next_same (same_front s h) none) (s.again vs h);
  more = s.more;
  whole = λ vs h q. let d = s.whole vs h in (quantified q x d.0, bound_body d.1);
}

related_to_nothing : {a : Argument} {r : Comparison} {ts us vs : List Token} → IsArgument ts a us → IsRelation us r vs → HasNoArgument vs
    → IsStuck StuckUnary AUnary ts vs
related_to_nothing (AVariable {x = x}) r none =
    IsStuck-behind (Variable x ∷ []) (relation-local r) (λ y vs h p. RelatedToNothing AVariable p (argument_same h none))
    (Variable some_name ∷ []) refl (λ y z p. (_, Compared AVariable p AVariable))
related_to_nothing (AGround {place = k} {text = text}) r none =
    IsStuck-behind (Ground k text ∷ []) (relation-local r) (λ y vs h p. RelatedToNothing AGround p (argument_same h none))
    (Variable some_name ∷ []) refl (λ y z p. (_, Compared AGround p AVariable))

compared_in : {a : Argument} {x : Name} {ts us vs : List Token} → IsArgument ts a us → AnEnclosed us (Variable x ∷ vs) → AUnary ts vs
compared_in p e = (_, Compared p (OfExpression e.1.1.1) AVariable)

in_relation : {a : Argument} {ts us vs : List Token} → IsArgument ts a us → IsStuck StuckEnclosed AnEnclosed us vs → IsStuck StuckUnary AUnary ts vs
in_relation (AVariable {x = x}) s =
    IsStuck-closed (Variable x ∷ []) s (λ y z p. InRelation AVariable p) (Variable some_name ∷ []) refl (λ y z p. compared_in AVariable p)
in_relation (AGround {place = k} {text = text}) s =
    IsStuck-closed (Ground k text ∷ []) s (λ y z p. InRelation AGround p) (Variable some_name ∷ []) refl (λ y z p. compared_in AGround p)

mutual
  StuckFormula-local : {ts us : List Token} → StuckFormula ts us → IsStuck StuckFormula AFormula ts us
  StuckFormula-local (OnTheLeft s) = IsStuck-map (StuckImplication-local s) (λ x z p. OnTheLeft p) (λ x z p. (p.0, OneSide p.1))
  StuckFormula-local (OnTheRight {f = f} i s) =
      IsStuck-then (implication-local i) (StuckImplication-local s) (λ x z p. OnTheRight p.1.0 p.1.1)
      (λ x z p. (theory.Iff f p.1.1.0, BothSides p.1.0 p.1.1.1))
  StuckFormula-local (SecondIff {f = f} {g = g} i j) =
      IsStuck-behind [] (Local-then (implication-local i) (implication-local j)) (λ x vs h p. second_iff h p.1.0 p.1.1) [] refl
      (λ x z p. (theory.Iff f g, BothSides p.1.0 p.1.1))

  StuckImplication-local : {ts us : List Token} → StuckImplication ts us → IsStuck StuckImplication AnImplication ts us
  StuckImplication-local (InPremise s) = IsStuck-map (StuckDisjunction-local s) (λ x z p. InPremise p) (λ x z p. (p.0, Conclusion p.1))
  StuckImplication-local (InConclusion {f = f} d s) =
      IsStuck-then (disjunction-local d) (StuckImplication-local s) (λ x z p. InConclusion p.1.0 p.1.1)
      (λ x z p. (theory.Imp f p.1.1.0, Premise p.1.0 p.1.1.1))

  StuckDisjunction-local : {ts us : List Token} → StuckDisjunction ts us → IsStuck StuckDisjunction ADisjunction ts us
  StuckDisjunction-local (InFirstOr s) = IsStuck-map (StuckConjunction-local s) (λ x z p. InFirstOr p) (λ x z p. (p.0, FirstOr p.1))
  StuckDisjunction-local (InMoreOr {f = f} d s) =
      IsStuck-then (disjunction-local d) (StuckConjunction-local s) (λ x z p. InMoreOr p.1.0 p.1.1)
      (λ x z p. (theory.Or f p.1.1.0, MoreOr p.1.0 p.1.1.1))

  StuckConjunction-local : {ts us : List Token} → StuckConjunction ts us → IsStuck StuckConjunction AConjunction ts us
  StuckConjunction-local (InFirstAnd s) = IsStuck-map (StuckUnary-local s) (λ x z p. InFirstAnd p) (λ x z p. (p.0, FirstAnd p.1))
  StuckConjunction-local (InMoreAnd {f = f} c s) =
      IsStuck-then (conjunction-local c) (StuckUnary-local s) (λ x z p. InMoreAnd p.1.0 p.1.1)
      (λ x z p. (theory.And f p.1.1.0, MoreAnd p.1.0 p.1.1.1))

  StuckUnary-local : {ts us : List Token} → StuckUnary ts us → IsStuck StuckUnary AUnary ts us
  StuckUnary-local (NoUnary e) = IsStuck-here [] (λ vs h. NoUnary (unstarted_same h e)) (True ∷ []) (λ z. (theory.True, Truth))
  StuckUnary-local (UnderNot s) = IsStuck-front (Not ∷ []) (StuckUnary-local s) (λ x z p. UnderNot p) (λ x z p. (theory.Not p.0, Negated p.1))
  StuckUnary-local (UnderExists s) =
      IsStuck-front (Exists ∷ []) (StuckBinders-local s) (λ x z p. UnderExists p) (λ x z p. let b = p grammar.Some in (b.0, ForSome b.1))
  StuckUnary-local (UnderForall s) =
      IsStuck-front (Forall ∷ []) (StuckBinders-local s) (λ x z p. UnderForall p) (λ x z p. let b = p grammar.Every in (b.0, ForEvery b.1))
  StuckUnary-local (NoInfiniteVariable none) =
      IsStuck-here (Infinite ∷ []) (λ vs h. NoInfiniteVariable (variable_same h none)) (Variable some_name ∷ Open ∷ True ∷ Close ∷ [])
      (λ z. (_, Infinitely (truth (Close ∷ z))))
  StuckUnary-local (UnderInfinite {x = x} s) =
      IsStuck-front (Infinite ∷ Variable x ∷ []) (StuckBody-local s) (λ y z p. UnderInfinite p) (λ y z p. (theory.Infinite x p.0, infinite_body p.1))
  StuckUnary-local (Within s) = within (StuckBody-local s)
  StuckUnary-local (NfUnopened i none) =
      IsStuck-unopened (Nf ∷ []) (index-again i) (λ x vs h p. NfUnopened p (next_same h none)) (Variable some_name ∷ Close ∷ [])
      (λ x z p. (_, NormalForm p AVariable))
  StuckUnary-local (NfWithoutArgument i none) =
      IsStuck-behind (Nf ∷ []) (Local-back (index-local i)) (λ x vs h p. NfWithoutArgument p (argument_same h none)) (Variable some_name ∷ Close ∷ []) refl
      (λ x z p. (_, NormalForm p AVariable))
  StuckUnary-local (NfUnclosed i a none) =
      IsStuck-behind (Nf ∷ []) (Local-then (index-local i) (argument-local a)) (λ x vs h p. NfUnclosed p.1.0 p.1.1 (next_same h none))
      (Close ∷ []) refl (λ x z p. (_, NormalForm p.1.0 p.1.1))
  StuckUnary-local (SnWithoutArgument i none) =
      IsStuck-behind (Sn ∷ []) (Local-back (index-local i)) (λ x vs h p. SnWithoutArgument p (argument_same h none)) (Variable some_name ∷ Close ∷ []) refl
      (λ x z p. (_, Terminating p AVariable))
  StuckUnary-local (SnUnclosed i a none) =
      IsStuck-behind (Sn ∷ []) (Local-then (index-local i) (argument-local a)) (λ x vs h p. SnUnclosed p.1.0 p.1.1 (next_same h none))
      (Close ∷ []) refl (λ x z p. (_, Terminating p.1.0 p.1.1))
  StuckUnary-local (JoinUnopened i none) =
      IsStuck-unopened (Join ∷ []) (index-again i) (λ x vs h p. JoinUnopened p (next_same h none))
      (Variable some_name ∷ Comma ∷ Variable some_name ∷ Close ∷ []) (λ x z p. (_, Joinable p AVariable AVariable))
  StuckUnary-local (JoinWithoutArgument i none) =
      IsStuck-behind (Join ∷ []) (Local-back (index-local i)) (λ x vs h p. JoinWithoutArgument p (argument_same h none))
      (Variable some_name ∷ Comma ∷ Variable some_name ∷ Close ∷ []) refl (λ x z p. (_, Joinable p AVariable AVariable))
  StuckUnary-local (JoinOfOne i a none) =
      IsStuck-behind (Join ∷ []) (Local-then (index-local i) (argument-local a)) (λ x vs h p. JoinOfOne p.1.0 p.1.1 (next_same h none))
      (Comma ∷ Variable some_name ∷ Close ∷ []) refl (λ x z p. (_, Joinable p.1.0 p.1.1 AVariable))
  StuckUnary-local (JoinHalf i a none) =
      IsStuck-behind (Join ∷ []) (Local-then (index-local i) (Local-back (argument-local a)))
      (λ x vs h p. JoinHalf p.1.0 p.1.1 (argument_same h none)) (Variable some_name ∷ Close ∷ []) refl
      (λ x z p. (_, Joinable p.1.0 p.1.1 AVariable))
  StuckUnary-local (JoinUnclosed i a b none) =
      IsStuck-behind (Join ∷ []) (Local-then (index-local i) (Local-then (argument-local a) (argument-local b)))
      (λ x vs h p. JoinUnclosed p.1.0 p.1.1.1.0 p.1.1.1.1 (next_same h none)) (Close ∷ []) refl
      (λ x z p. (_, Joinable p.1.0 p.1.1.1.0 p.1.1.1.1))
  StuckUnary-local (Unrelated a none) =
      IsStuck-behind [] (argument-local a) (λ x vs h p. Unrelated p (unrelated_same h none)) (Related theory.Eq ∷ Variable some_name ∷ []) refl
      (λ x z p. (_, Compared p (WithoutIndex refl) AVariable))
  StuckUnary-local (InRelation a s) = in_relation a (StuckEnclosed-local s)
  StuckUnary-local (RelatedToNothing a r none) = related_to_nothing a r none

  StuckBinders-local : {ts us : List Token} → StuckBinders ts us → IsStuck StuckBinders ABound ts us
  StuckBinders-local (NoBinder none) =
      IsStuck-here [] (λ vs h. NoBinder (variable_same h none)) (Variable some_name ∷ Open ∷ True ∷ Close ∷ [])
      (λ z q. (_, LastBinder (truth (Close ∷ z))))
  StuckBinders-local (InMoreBinders {x = x} s) =
      IsStuck-front (Variable x ∷ Comma ∷ []) (StuckBinders-local s) (λ y z p. InMoreBinders p)
      (λ y z p q. let b = p q in (quantified q x b.0, MoreBinders b.1))
  StuckBinders-local (BehindBinders none s) = behind_binders none (StuckBody-local s)

  StuckBody-local : {ts us : List Token} → StuckBody ts us → IsStuck StuckBody ABody ts us
  StuckBody-local (Unopened none) =
      IsStuck-here [] (λ vs h. Unopened (next_same h none)) (Open ∷ True ∷ Close ∷ []) (λ z. (_, Parenthesized (truth (Close ∷ z))))
  StuckBody-local (Inside s) =
      IsStuck-closed (Open ∷ []) (StuckFormula-local s) (λ x z p. Inside p) (Close ∷ []) refl (λ x z p. (p.0, Parenthesized p.1))
  StuckBody-local (Unclosed d e none) =
      IsStuck-behind (Open ∷ []) (formula-local d) (λ x vs h p. Unclosed p (ended_same h e) (next_same h none)) (Close ∷ []) refl
      (λ x z p. (_, Parenthesized p))

pub StuckWhole-local : {ts us : List Token} → StuckWhole ts us → IsStuck StuckWhole AFormula ts us
StuckWhole-local (InFormula s) = IsStuck-map (StuckFormula-local s) (λ x z p. InFormula p) (λ x z p. p)
StuckWhole-local (BehindFormula {f = f} d e) =
    IsStuck-behind [] (formula-local d) (λ x vs h p. behind_formula h (ended_same h e) p) [] refl (λ x z p. (f, p))

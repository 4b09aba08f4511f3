-- Tokens begin with one formula of each kind at most, and what follows it is determined, where the reading can't go on.
use Rattle.std.proofs.Common.{◌≡◌, false, List, [], ◌∷◌, None, refl, sym, ap, ◌∙◌, subst, inl, inr}
use Rattle.std.proofs.lemmas.Bool.{true≢false}
use Rattle.fort_logic.specs.Formulas as theory
use Rattle.fort_logic.specs.Formulas.{Argument, Formula}
use Rattle.fort_formula_grammar.specs.Tokens.{Token, And, Or}
use Rattle.fort_formula_grammar.specs.FormulaGrammar.{Quantifier, quantified, begins_with_open, Comparison, compared, IsFormula, IsImplication, IsDisjunction, IsConjunction, IsUnary, IsBound, IsArgument, IsRelation, OneSide, BothSides, Conclusion, Premise, FirstOr, MoreOr, FirstAnd, MoreAnd, Negated, ForSome, ForEvery, Infinitely, Enclosed, Truth, Falsity, Named, Commuting, AllTerminating, Terminating, NormalForm, Joinable, Compared, LastBinder, MoreBinders, AVariable, AGround}
use Rattle.fort_formula_grammar.specs.Continuations.{continues_conjunction, continues_disjunction, continues_implication, continues_formula}
use Rattle.fort_formula_grammar.proofs.IndexUnique.{same_behind, IsIndex-unique, argument_behind}
use Rattle.fort_formula_grammar.proofs.RelationUnique.{IsRelation-unique}
use Rattle.fort_formula_grammar.proofs.FormulaTails.{AndTail, NoAnd, OneAnd, AndTail-push, and_parts, AreAndFronts, AreAndFronts-ended, OrTail, NoOr, OneOr, OrTail-push, OrTail-begin, or_parts, AreOrFronts, AreOrFronts-ended, disjunction-not_conjunction, implication-not_disjunction, formula-not_implication}

low : (ts : List Token) → continues_implication ts ≡ false → continues_conjunction ts ≡ false
low ts h = disjunction-not_conjunction ts (implication-not_disjunction ts h)

OrTail-same : {ts us vs : List Token} {f g h : Formula} → f ≡ g → ts ≡ us → OrTail f ts h vs → OrTail g us h vs
OrTail-same {ts} {us} {vs} {f} {g} {h} e r t = subst (λ x. OrTail g x h vs) r (subst (λ x. OrTail x ts h vs) e t)

AndTail-same : {ts us vs : List Token} {f g h : Formula} → f ≡ g → ts ≡ us → AndTail f ts h vs → AndTail g us h vs
AndTail-same {ts} {us} {vs} {f} {g} {h} e r t = subst (λ x. AndTail g x h vs) r (subst (λ x. AndTail x ts h vs) e t)

-- a reading that has one unary formula more than the front of another
AndTail-step : {us vs ws : List Token} {f g h : Formula} → IsUnary us g vs → ((k : Formula) (xs : List Token) → IsUnary us k xs → (g ≡ k) × (vs ≡ xs))
    → AndTail f (And ∷ us) h ws → AreAndFronts (theory.And f g) vs h ws
AndTail-step u unique NoAnd = inr (OneAnd u NoAnd)
AndTail-step {f = f} u unique (OneAnd v t) =
    let same = unique _ _ v in
    inl (AndTail-same (sym (ap (theory.And f) same.0)) (sym same.1) t)

OrTail-step : {us vs ws : List Token} {f g h : Formula} → continues_conjunction ws ≡ false → IsConjunction us g vs
    → ((k : Formula) (xs : List Token) → IsConjunction us k xs → continues_conjunction xs ≡ false → (g ≡ k) × (vs ≡ xs))
    → OrTail f (Or ∷ us) h ws → AreOrFronts (theory.Or f g) vs h ws
OrTail-step q c unique NoOr = inr (OneOr c NoOr)
OrTail-step {f = f} q c unique (OneOr d t) =
    let same = unique _ _ d (OrTail-begin t q) in
    inl (OrTail-same (sym (ap (theory.Or f) same.0)) (sym same.1) t)

compared_same : {r s : Comparison} {b c : Argument} (a : Argument) → r ≡ s → b ≡ c → compared r a b ≡ compared s a c
compared_same {s = s} {b = b} a e h = ap (λ r. compared r a b) e ∙ ap (compared s a) h

compared-unique : {ts us vs ws xs : List Token} {a b : Argument} {r : Comparison} {f : Formula} → IsArgument ts a us
    → IsRelation us r vs → IsArgument vs b ws → IsUnary ts f xs → (compared r a b ≡ f) × (ws ≡ xs)
compared-unique (AVariable {x = x}) r b (Compared AVariable s c) =
    let relations = IsRelation-unique r s in
    let same = argument_behind relations.1 b c in
    (compared_same (theory.Var x) relations.0 same.0, same.1)
compared-unique (AGround {place = k}) r b (Compared AGround s c) =
    let relations = IsRelation-unique r s in
    let same = argument_behind relations.1 b c in
    (compared_same (theory.Ground k) relations.0 same.0, same.1)

-- of two conjunctions or disjunctions that begin at one place, one is a front of the other
mutual
  pub formula-unique : {ts us vs : List Token} {f g : Formula} → IsFormula ts f us → continues_formula us ≡ false
      → IsFormula ts g vs → continues_formula vs ≡ false → (f ≡ g) × (us ≡ vs)
  formula-unique {us = us} {vs = vs} (OneSide i) p (OneSide j) q =
      implication-unique i (formula-not_implication us p) j (formula-not_implication vs q)
  formula-unique {us = us} (OneSide i) p (BothSides j k) q =
      let same = implication-unique i (formula-not_implication us p) j refl in
      absurd (true≢false (sym (ap continues_formula same.1) ∙ p))
  formula-unique {vs = vs} (BothSides i k) p (OneSide j) q =
      let same = implication-unique i refl j (formula-not_implication vs q) in
      absurd (true≢false (ap continues_formula same.1 ∙ q))
  formula-unique {us = us} {vs = vs} (BothSides {us = r1} {f = f} {g = g} i k) p (BothSides {us = r2} {f = f2} {g = g2} j l) q =
      let left = implication-unique i refl j refl in
      let e = left.1 in
      let rests : r2 ≡ r1 = cc in
      let right = implication-unique k (formula-not_implication us p) (subst (λ ts. IsImplication ts g2 vs) rests l) (formula-not_implication vs q) in
      (ap (λ h. theory.Iff h g) left.0 ∙ ap (theory.Iff f2) right.0, right.1)

  pub implication-unique : {ts us vs : List Token} {f g : Formula} → IsImplication ts f us → continues_implication us ≡ false
      → IsImplication ts g vs → continues_implication vs ≡ false → (f ≡ g) × (us ≡ vs)
  implication-unique {us = us} {vs = vs} (Conclusion d) p (Conclusion e) q =
      AreOrFronts-ended (disjunction-fronts d (low us p) e (low vs q)) (implication-not_disjunction us p) (implication-not_disjunction vs q)
  implication-unique {us = us} (Conclusion d) p (Premise e j) q =
      let same = AreOrFronts-ended (disjunction-fronts d (low us p) e refl) (implication-not_disjunction us p) refl in
      absurd (true≢false (sym (ap continues_implication same.1) ∙ p))
  implication-unique {vs = vs} (Premise d i) p (Conclusion e) q =
      let same = AreOrFronts-ended (disjunction-fronts d refl e (low vs q)) refl (implication-not_disjunction vs q) in
      absurd (true≢false (ap continues_implication same.1 ∙ q))
  implication-unique {us = us} {vs = vs} (Premise {us = r1} {f = f} {g = g} d i) p (Premise {us = r2} {f = f2} {g = g2} e j) q =
      let left = AreOrFronts-ended (disjunction-fronts d refl e refl) refl refl in
      let h = left.1 in
      let rests : r2 ≡ r1 = cc in
      let right = implication-unique i p (subst (λ ts. IsImplication ts g2 vs) rests j) q in
      (ap (λ x. theory.Imp x g) left.0 ∙ ap (theory.Imp f2) right.0, right.1)

  pub disjunction-fronts : {ts us vs : List Token} {f g : Formula} → IsDisjunction ts f us → continues_conjunction us ≡ false
      → IsDisjunction ts g vs → continues_conjunction vs ≡ false → AreOrFronts f us g vs
  disjunction-fronts {vs = vs} {f = f} {g = g} (FirstOr c) p e q =
      let parts = or_parts e in
      let same = AreAndFronts-ended (conjunction-fronts c parts.conjunction) p (OrTail-begin parts.tail q) in
      inl (OrTail-same (sym same.0) (sym same.1) parts.tail)
  disjunction-fronts (MoreOr d c) p e q =
      elim (disjunction-fronts d refl e q) [
        | inl t ↦ OrTail-step q c (λ k xs b r. AreAndFronts-ended (conjunction-fronts c b) p r) t
        | inr t ↦ inr (OrTail-push t c)
      ]

  pub conjunction-fronts : {ts us vs : List Token} {f g : Formula} → IsConjunction ts f us → IsConjunction ts g vs → AreAndFronts f us g vs
  conjunction-fronts (FirstAnd u) d = let parts = and_parts d in let same = unary-unique u parts.unary in inl (AndTail-same (sym same.0) (sym same.1) parts.tail)
  conjunction-fronts (MoreAnd c u) d = elim (conjunction-fronts c d) [ inl t ↦ AndTail-step u (λ k xs v. unary-unique u v) t | inr t ↦ inr (AndTail-push t u) ]

  pub unary-unique : {ts us vs : List Token} {f g : Formula} → IsUnary ts f us → IsUnary ts g vs → (f ≡ g) × (us ≡ vs)
  unary-unique (Negated u) (Negated v) = let same = unary-unique u v in (ap theory.Not same.0, same.1)
  unary-unique (ForSome b) (ForSome c) = bound-unique b c
  unary-unique (ForEvery b) (ForEvery c) = bound-unique b c
  unary-unique (Infinitely {x = x} d) (Infinitely e) = let same = formula-unique d refl e refl in (ap (theory.Infinite x) same.0, same_behind same.1)
  unary-unique (Enclosed d) (Enclosed e) = let same = formula-unique d refl e refl in (same.0, same_behind same.1)
  unary-unique Truth Truth = (refl, refl)
  unary-unique Falsity Falsity = (refl, refl)
  unary-unique (Named {p = p} i) (Named j) = let same = IsIndex-unique i j in (ap (theory.Has p) same.0, same.1)
  unary-unique Commuting Commuting = (refl, refl)
  unary-unique (AllTerminating i none) (AllTerminating j none') = let same = IsIndex-unique i j in (ap (theory.Sn None) same.0, same.1)
  unary-unique (AllTerminating i none) (Terminating j b) = absurd (true≢false (sym (ap begins_with_open (IsIndex-unique i j).1) ∙ none))
  unary-unique (Terminating i a) (AllTerminating j none) = absurd (true≢false (ap begins_with_open (IsIndex-unique i j).1 ∙ none))
  unary-unique (Terminating i a) (Terminating j b) =
      let indices = IsIndex-unique i j in
      let same = argument_behind (same_behind indices.1) a b in
      (cc, same_behind same.1)
  unary-unique (NormalForm i a) (NormalForm j b) =
      let indices = IsIndex-unique i j in
      let same = argument_behind (same_behind indices.1) a b in
      (cc, same_behind same.1)
  unary-unique (Joinable i a c) (Joinable j b d) =
      let indices = IsIndex-unique i j in
      let first = argument_behind (same_behind indices.1) a b in
      let second = argument_behind (same_behind first.1) c d in
      (cc, same_behind second.1)
  unary-unique (Compared a r b) v = compared-unique a r b v
  unary-unique u (Compared a r b) = let same = compared-unique a r b u in (sym same.0, sym same.1)

  pub bound-unique : {q : Quantifier} {ts us vs : List Token} {f g : Formula} → IsBound q ts f us → IsBound q ts g vs → (f ≡ g) × (us ≡ vs)
  bound-unique (LastBinder {q = q} {x = x} d) (LastBinder e) = let same = formula-unique d refl e refl in (ap (quantified q x) same.0, same_behind same.1)
  bound-unique (MoreBinders {q = q} {x = x} b) (MoreBinders c) = let same = bound-unique b c in (ap (quantified q x) same.0, same.1)

pub disjunction-unique : {ts us vs : List Token} {f g : Formula} → IsDisjunction ts f us → continues_disjunction us ≡ false
    → IsDisjunction ts g vs → continues_disjunction vs ≡ false → (f ≡ g) × (us ≡ vs)
disjunction-unique {us = us} {vs = vs} d p e q =
    AreOrFronts-ended (disjunction-fronts d (disjunction-not_conjunction us p) e (disjunction-not_conjunction vs q)) p q

pub one_formula : {ts : List Token} {f g : Formula} → IsFormula ts f [] → IsFormula ts g [] → f ≡ g
one_formula d e = (formula-unique d refl e refl).0

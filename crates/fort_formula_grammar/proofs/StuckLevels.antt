-- Where no formula of a kind begins, or a reading is stuck behind a connective, no formula of the next kind begins.
use Rattle.std.proofs.Common.{◌≡◌, true, false, List, ◌∷◌, refl, sym, ap, ◌∙◌, subst, inl, inr}
use Rattle.std.proofs.lemmas.Bool.{true≢false}
use Rattle.fort_logic.specs.Formulas.{Formula}
use Rattle.fort_formula_grammar.specs.Tokens.{Token, And, Or, Imp, Iff}
use Rattle.fort_formula_grammar.specs.FormulaGrammar.{IsImplication, IsDisjunction, IsConjunction, OneSide, BothSides, Conclusion, Premise}
use Rattle.fort_formula_grammar.specs.Continuations.{continues_conjunction, continues_disjunction, continues_implication, continues_formula, HasNoUnary, HasNoConjunction, HasNoDisjunction, HasNoImplication, HasNoFormula}
use Rattle.fort_formula_grammar.proofs.FormulaTails.{NoAnd, OneAnd, and_parts, AreAndFronts, NoOr, OneOr, OrTail-begin, or_parts, AreOrFronts, disjunction-not_conjunction, implication-not_disjunction, formula-not_implication}
use Rattle.fort_formula_grammar.proofs.FormulaUnique.{conjunction-fronts, disjunction-fronts, disjunction-unique, implication-unique}

pub conjunction-none : {ts : List Token} → HasNoUnary ts → HasNoConjunction ts
conjunction-none none f us c p = let parts = and_parts c in none _ _ parts.unary

and_stuck : {us vs : List Token} {f g : Formula} → HasNoUnary us → continues_conjunction vs ≡ false → AreAndFronts f (And ∷ us) g vs → ⊥
and_stuck none q (inl NoAnd) = true≢false q
and_stuck none q (inl (OneAnd u t)) = none _ _ u
and_stuck none q (inr NoAnd) = true≢false q
and_stuck none q (inr (OneAnd u t)) = true≢false q

pub conjunction-stuck : {ts us : List Token} {f : Formula} → IsConjunction ts f (And ∷ us) → HasNoUnary us → HasNoConjunction ts
conjunction-stuck c none g vs d q = and_stuck none q (conjunction-fronts c d)

pub disjunction-none : {ts : List Token} → HasNoConjunction ts → HasNoDisjunction ts
disjunction-none none f us d p =
    let parts = or_parts d in
    none _ _ parts.conjunction (OrTail-begin parts.tail (disjunction-not_conjunction us p))

or_stuck : {us vs : List Token} {f g : Formula} → HasNoConjunction us → continues_disjunction vs ≡ false → AreOrFronts f (Or ∷ us) g vs → ⊥
or_stuck none q (inl NoOr) = true≢false q
or_stuck {vs = vs} none q (inl (OneOr c t)) = none _ _ c (OrTail-begin t (disjunction-not_conjunction vs q))
or_stuck none q (inr NoOr) = true≢false q
or_stuck none q (inr (OneOr c t)) = true≢false q

pub disjunction-stuck : {ts us : List Token} {f : Formula} → IsDisjunction ts f (Or ∷ us) → HasNoConjunction us → HasNoDisjunction ts
disjunction-stuck d none g vs e q = or_stuck none q (disjunction-fronts d refl e (disjunction-not_conjunction vs q))

pub implication-none : {ts : List Token} → HasNoDisjunction ts → HasNoImplication ts
implication-none none f us (Conclusion d) p = none _ _ d (implication-not_disjunction us p)
implication-none none f us (Premise d i) p = none _ _ d refl

pub implication-stuck : {ts us : List Token} {f : Formula} → IsDisjunction ts f (Imp ∷ us) → HasNoImplication us → HasNoImplication ts
implication-stuck d none g vs (Conclusion e) q =
    let same = disjunction-unique d refl e (implication-not_disjunction vs q) in
    true≢false (ap continues_implication same.1 ∙ q)
implication-stuck {us = us} d none h vs (Premise {us = rest} {g = g} e i) q =
    let same = (disjunction-unique d refl e refl).1 in
    let rests : rest ≡ us = cc in
    none _ _ (subst (λ ts. IsImplication ts g vs) rests i) q

pub formula-none : {ts : List Token} → HasNoImplication ts → HasNoFormula ts
formula-none none f us (OneSide i) p = none _ _ i (formula-not_implication us p)
formula-none none f us (BothSides i j) p = none _ _ i refl

pub formula-stuck : {ts us : List Token} {f : Formula} → IsImplication ts f (Iff ∷ us) → HasNoImplication us → HasNoFormula ts
formula-stuck i none g vs (OneSide j) q =
    let same = implication-unique i refl j (formula-not_implication vs q) in
    true≢false (ap continues_formula same.1 ∙ q)
formula-stuck {us = us} i none h vs (BothSides {us = rest} {g = g} j k) q =
    let same = (implication-unique i refl j refl).1 in
    let rests : rest ≡ us = cc in
    none _ _ (subst (λ ts. IsImplication ts g vs) rests k) (formula-not_implication vs q)

-- a second "<=>" on the same level
pub formula-over : {ts us vs : List Token} {f g : Formula} → IsImplication ts f (Iff ∷ us) → IsImplication us g vs
    → continues_implication vs ≡ false → continues_formula vs ≡ true → HasNoFormula ts
formula-over i j p o h ws (OneSide k) q =
    let same = implication-unique i refl k (formula-not_implication ws q) in
    true≢false (ap continues_formula same.1 ∙ q)
formula-over {us = us} i j p o _ ws (BothSides {us = rest} {g = g} k l) q =
    let same = (implication-unique i refl k refl).1 in
    let rests : rest ≡ us = cc in
    let ends = implication-unique j p (subst (λ ts. IsImplication ts g ws) rests l) (formula-not_implication ws q) in
    true≢false (sym o ∙ (ap continues_formula ends.1 ∙ q))

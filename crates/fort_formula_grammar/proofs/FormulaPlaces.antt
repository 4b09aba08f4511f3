-- Each place that a formula mentions is the place of a ground term among its tokens.
use Rattle.std.proofs.Common.{◌≡◌, ℕ, List, [], ◌∷◌, ◌++◌, inl, inr, refl, sym, subst}
use Rattle.std.specs.Prelude.{Contains}
use Rattle.std.proofs.lemmas.List.Elements.{Contains-append_right, Contains-append_cases}
use Rattle.fort_theory.proofs.Members.{Contains-head, Contains-behind, Contains-cons_cases, Contains-none}
use Rattle.fort_logic.specs.Formulas.{Name, Argument, Formula}
use Rattle.fort_logic.specs.Mentions.{places_in, places}
use Rattle.fort_formula_grammar.specs.Tokens.{Token, Open, Comma, Not, Exists, Forall, Infinite, Nf, Join, Sn, Variable, Ground}
use Rattle.fort_formula_grammar.specs.FormulaGrammar as grammar
use Rattle.fort_formula_grammar.specs.FormulaGrammar.{Quantifier, quantified, Comparison, compared, IsArgument, AVariable, AGround, IsFormula, IsImplication, IsDisjunction, IsConjunction, IsUnary, IsBound, OneSide, BothSides, Conclusion, Premise, FirstOr, MoreOr, FirstAnd, MoreAnd, Negated, ForSome, ForEvery, Infinitely, Enclosed, Truth, Falsity, Named, Commuting, AllTerminating, Terminating, NormalForm, Joinable, Compared, LastBinder, MoreBinders}
use Rattle.fort_formula_grammar.proofs.LocalParts.{Local, index-local}
use Rattle.fort_formula_grammar.proofs.LocalReadings.{argument-local, relation-local, implication-local, disjunction-local, conjunction-local}

-- a ground term among the tokens has this place
pub record IsPlaceAmong (ts : List Token) (k : ℕ) : Type 0 where
  pub text : List ℕ
  pub among : Contains ts (Ground k text)

next_place : {ts : List Token} {k : ℕ} (t : Token) → IsPlaceAmong ts k → IsPlaceAmong (t ∷ ts) k
next_place {ts} {k} t p = record { text = p.text; among = Contains-behind t ts (Ground k p.text) p.among }

-- the same behind what was read
place_behind : {K : List Token → List Token → Type 0} {ts us : List Token} {k : ℕ} → Local K ts us → IsPlaceAmong us k → IsPlaceAmong ts k
place_behind {us = us} {k = k} r p = record {
  text = p.text;
  among = subst (λ w. Contains w (Ground k p.text)) (sym r.is) (Contains-append_right r.read us (Ground k p.text) p.among);
}

argument_places : {ts us : List Token} {a : Argument} → IsArgument ts a us → (k : ℕ) → Contains (places_in a) k → IsPlaceAmong ts k
argument_places AVariable k c = absurd (Contains-none k c)
argument_places (AGround {place = n} {text = text} {us = us}) k c =
    elim (Contains-cons_cases n [] k c) [
      | inl e ↦ let there = Contains-head (Ground n text) us in
          record { text = text; among = subst (λ m. Contains (Ground n text ∷ us) (Ground m text)) e there }
      | inr d ↦ absurd (Contains-none k d)
    ]

quantified_places : (q : Quantifier) (x : Name) (f : Formula) → places (quantified q x f) ≡ places f
quantified_places grammar.Some x f = refl
quantified_places grammar.Every x f = refl

compared_places : (r : Comparison) (a b : Argument) → places (compared r a b) ≡ places_in a ++ places_in b
compared_places (grammar.ByRules rel index) a b = refl
compared_places (grammar.ByExpression e number place) a b = refl

mutual
  pub formula_places : {ts us : List Token} {f : Formula} → IsFormula ts f us → (k : ℕ) → Contains (places f) k → IsPlaceAmong ts k
  formula_places (OneSide i) k c = implication_places i k c
  formula_places (BothSides {f = f} {g = g} i j) k c =
      elim (Contains-append_cases (places f) (places g) k c) [
        | inl a ↦ implication_places i k a
        | inr b ↦ place_behind (implication-local i) (next_place _ (implication_places j k b))
      ]

  implication_places : {ts us : List Token} {f : Formula} → IsImplication ts f us → (k : ℕ) → Contains (places f) k → IsPlaceAmong ts k
  implication_places (Conclusion d) k c = disjunction_places d k c
  implication_places (Premise {f = f} {g = g} d i) k c =
      elim (Contains-append_cases (places f) (places g) k c) [
        | inl a ↦ disjunction_places d k a
        | inr b ↦ place_behind (disjunction-local d) (next_place _ (implication_places i k b))
      ]

  disjunction_places : {ts us : List Token} {f : Formula} → IsDisjunction ts f us → (k : ℕ) → Contains (places f) k → IsPlaceAmong ts k
  disjunction_places (FirstOr d) k c = conjunction_places d k c
  disjunction_places (MoreOr {f = f} {g = g} d e) k c =
      elim (Contains-append_cases (places f) (places g) k c) [
        | inl a ↦ disjunction_places d k a
        | inr b ↦ place_behind (disjunction-local d) (next_place _ (conjunction_places e k b))
      ]

  conjunction_places : {ts us : List Token} {f : Formula} → IsConjunction ts f us → (k : ℕ) → Contains (places f) k → IsPlaceAmong ts k
  conjunction_places (FirstAnd u) k c = unary_places u k c
  conjunction_places (MoreAnd {f = f} {g = g} d u) k c =
      elim (Contains-append_cases (places f) (places g) k c) [
        | inl a ↦ conjunction_places d k a
        | inr b ↦ place_behind (conjunction-local d) (next_place _ (unary_places u k b))
      ]

  unary_places : {ts us : List Token} {f : Formula} → IsUnary ts f us → (k : ℕ) → Contains (places f) k → IsPlaceAmong ts k
  unary_places (Negated u) k c = next_place Not (unary_places u k c)
  unary_places (ForSome b) k c = next_place Exists (bound_places b k c)
  unary_places (ForEvery b) k c = next_place Forall (bound_places b k c)
  unary_places (Infinitely {x = x} d) k c = next_place Infinite (next_place (Variable x) (next_place Open (formula_places d k c)))
  unary_places (Enclosed d) k c = next_place Open (formula_places d k c)
  unary_places Truth k c = absurd (Contains-none k c)
  unary_places Falsity k c = absurd (Contains-none k c)
  unary_places (Named i) k c = absurd (Contains-none k c)
  unary_places Commuting k c = absurd (Contains-none k c)
  unary_places (AllTerminating i none) k c = absurd (Contains-none k c)
  unary_places (Terminating i a) k c = next_place Sn (place_behind (index-local i) (next_place Open (argument_places a k c)))
  unary_places (NormalForm i a) k c = next_place Nf (place_behind (index-local i) (next_place Open (argument_places a k c)))
  unary_places (Joinable {a = a} {b = b} i p q) k c =
      next_place Join (place_behind (index-local i) (next_place Open (elim (Contains-append_cases (places_in a) (places_in b) k c) [
        | inl d ↦ argument_places p k d
        | inr d ↦ place_behind (argument-local p) (next_place Comma (argument_places q k d))
      ])))
  unary_places (Compared {a = a} {b = b} {r = s} p r q) k c =
      elim (Contains-append_cases (places_in a) (places_in b) k (subst (λ w. Contains w k) (compared_places s a b) c)) [
        | inl d ↦ argument_places p k d
        | inr d ↦ place_behind (argument-local p) (place_behind (relation-local r) (argument_places q k d))
      ]

  bound_places : {q : Quantifier} {ts us : List Token} {f : Formula} → IsBound q ts f us → (k : ℕ) → Contains (places f) k
      → IsPlaceAmong ts k
  bound_places (LastBinder {q = q} {x = x} {f = f} d) k c =
      next_place (Variable x) (next_place Open (formula_places d k (subst (λ w. Contains w k) (quantified_places q x f) c)))
  bound_places (MoreBinders {q = q} {x = x} {f = f} b) k c =
      next_place (Variable x) (next_place Comma (bound_places b k (subst (λ w. Contains w k) (quantified_places q x f) c)))

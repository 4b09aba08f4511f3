-- Tokens begin with one expression at most, and what follows it is determined; so it is with an expression in its brackets.
use Rattle.std.proofs.Common.{◌≡◌, List, ◌∷◌, sym, ap, ◌∙◌, subst}
use Rattle.fort_theory.specs.Expressions.{Expression, RootSteps}
use Rattle.fort_theory.specs.Contexts.{HoleNumber, HolePlace}
use Rattle.fort_logic.specs.Formulas.{Name}
use Rattle.fort_formula_grammar.specs.Tokens.{Token, Close, Comma, End, Variable}
use Rattle.fort_formula_grammar.specs.ExpressionGrammar.{of_one, of_two, IsExpression, OfRoot, OfOne, OfTwo, IsEnclosed, Between}
use Rattle.fort_formula_grammar.proofs.IndexUnique.{same_behind, IsIndex-unique}
use Rattle.fort_formula_grammar.proofs.ExpressionWords.{root-not_one, root-not_two, one-not_two, one_word-injective, two_word-injective, number_word-injective, place_word-injective}

pub IsExpression-unique : {ts us vs : List Token} {e f : Expression} → IsExpression ts e us → IsExpression ts f vs → (e ≡ f) × (us ≡ vs)
IsExpression-unique (OfRoot h i) (OfRoot k j) = let same = IsIndex-unique i j in (ap RootSteps same.0, same.1)
IsExpression-unique (OfRoot h i) (OfOne op k e) = absurd (root-not_one op (sym h ∙ k))
IsExpression-unique (OfRoot h i) (OfTwo op k a b) = absurd (root-not_two op (sym h ∙ k))
IsExpression-unique (OfOne op h e) (OfRoot k i) = absurd (root-not_one op (sym k ∙ h))
IsExpression-unique (OfOne op {e = f} h e) (OfOne other {e = g} k d) =
    let ops = one_word-injective op other (sym h ∙ k) in
    let same = IsExpression-unique e d in
    (ap (λ o. of_one o f) ops ∙ ap (of_one other) same.0, same_behind same.1)
IsExpression-unique (OfOne op h e) (OfTwo other k a b) = absurd (one-not_two op other (sym h ∙ k))
IsExpression-unique (OfTwo op h a b) (OfRoot k i) = absurd (root-not_two op (sym k ∙ h))
IsExpression-unique (OfTwo op h a b) (OfOne other k e) = absurd (one-not_two other op (sym k ∙ h))
IsExpression-unique {us = us} {vs = vs} (OfTwo op {a = a} {b = b} h p q) (OfTwo other {a = c} {b = d} k r s) =
    let ops = two_word-injective op other (sym h ∙ k) in
    let first = IsExpression-unique p r in
    let second = IsExpression-unique q (subst (λ ts. IsExpression ts d (Close ∷ vs)) (sym (same_behind first.1)) s) in
    (ap (λ o. of_two o a b) ops ∙ (ap (λ e. of_two other e b) first.0 ∙ ap (of_two other c) second.0), same_behind second.1)

-- what follows an expression in its brackets
record AreSameTails (x y : Name) (us : List Token) (v w : Name) (vs : List Token) : Type 0 where
  number : x ≡ v
  place : y ≡ w
  rest : us ≡ vs

pub same_variable : {x y : Name} {us vs : List Token} → Variable x ∷ us ≡ Variable y ∷ vs → (x ≡ y) × (us ≡ vs)
same_variable e = (cc, cc)

same_tails : {x y v w : Name} {us vs : List Token} → Comma ∷ Variable x ∷ Comma ∷ Variable y ∷ End ∷ us ≡ Comma ∷ Variable v ∷ Comma ∷ Variable w ∷ End ∷ vs
    → AreSameTails x y us v w vs
same_tails e =
    let numbers = same_variable (same_behind e) in
    let places = same_variable (same_behind numbers.1) in
    record { number = numbers.0; place = places.0; rest = same_behind places.1 }

pub IsEnclosed-unique : {ts us vs : List Token} {e f : Expression} {m n : HoleNumber} {p q : HolePlace} → IsEnclosed ts e m p us → IsEnclosed ts f n q vs
    → (e ≡ f) × (m ≡ n) × (p ≡ q) × (us ≡ vs)
IsEnclosed-unique {m = m} {n = n} {p = p} {q = q} (Between h k d) (Between i j e) =
    let same = IsExpression-unique d e in
    let tails = same_tails same.1 in
    (same.0, number_word-injective m n (sym h ∙ (tails.number ∙ i)), place_word-injective p q (sym k ∙ (tails.place ∙ j)), tails.rest)

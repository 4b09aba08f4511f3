-- A formula of a text needs few numbers: at most four for each of its tokens.
use Rattle.std.proofs.Common.{ℕ, ◌+◌, ◌*◌, ◌^◌, ◌<◌, ◌≤◌, not, List, [], ◌∷◌, ◌++◌, length, bytes_eq, refl, arith}
use Rattle.std.specs.Prelude.{max}
use Rattle.std.proofs.Math.Nat.{max-le}
use Rattle.std.proofs.lemmas.List.{length-append}
use Rattle.std.proofs.lemmas.List.Filters.{length-filter_both}
use Rattle.fort_theory.specs.Expressions.{Expression}
use Rattle.fort_logic.specs.Formulas as theory
use Rattle.fort_logic.specs.Formulas.{Name, Argument, Var, Ground, Formula}
use Rattle.fort_logic.specs.FreeNames.{without, names_in, occurrences, once}
use Rattle.fort_formula_grammar.specs.Tokens.{Token, And, Or, Imp, Iff}
use Rattle.fort_formula_grammar.specs.ExpressionGrammar.{IsIndex, Given, LeftOut, IsExpression, OfRoot, OfOne, OfTwo, Between}
use Rattle.fort_formula_grammar.specs.FormulaGrammar.{Quantifier, Some, Every, quantified, Comparison, ByRules, ByExpression, compared, IsArgument, AVariable, AGround, IsRelation, WithoutIndex, WithIndex, OfExpression, IsFormula, OneSide, BothSides, IsImplication, Conclusion, Premise, IsDisjunction, FirstOr, MoreOr, IsConjunction, FirstAnd, MoreAnd, IsUnary, Negated, ForSome, ForEvery, Infinitely, Enclosed, Truth, Falsity, Named, Commuting, AllTerminating, Terminating, NormalForm, Joinable, Compared, IsBound, LastBinder, MoreBinders}
use Rattle.fort_formula_grammar.specs.FormulaText.{most_tokens}
use Rattle.fort_formulas.specs.NumbersNeeded.{argument_numbers, binder_numbers, numbers_needed}

length-without : (x : Name) (xs : List Name) → length (without x xs) ≤ length xs
length-without x xs =
    let parts = length-filter_both (λ y. not (bytes_eq y x)) (λ y. not (not (bytes_eq y x))) (λ y. refl) xs in omega arith

length-once : (xs : List Name) → length (once xs) ≤ length xs
length-once [] = omega arith
length-once (x ∷ xs) = omega (arith, length-without x (once xs), length-once xs)

-- the numbers of a formula, with one for each free occurrence of a name
abbrev pub weight : Formula → ℕ
weight f = length (occurrences f) + binder_numbers f

numbers_needed-weight : (f : Formula) → numbers_needed f ≤ weight f
numbers_needed-weight f = omega (arith, length-once (occurrences f))

weight-two : (f g : Formula) → length (occurrences f ++ occurrences g) + max (binder_numbers f) (binder_numbers g) ≤ weight f + weight g
weight-two f g =
    let most : max (binder_numbers f) (binder_numbers g) ≤ binder_numbers f + binder_numbers g = max-le (omega arith) (omega arith) in
    omega (arith, most, length-append (occurrences f) (occurrences g))

weight-quantified : (q : Quantifier) (x : Name) (f : Formula) → weight (quantified q x f) ≤ weight f + 1
weight-quantified Some x f = omega (arith, length-without x (occurrences f))
weight-quantified Every x f = omega (arith, length-without x (occurrences f))

-- the tokens before the rest are enough for the formula
abbrev pub Suffice : List Token → Formula → List Token → Type 0
Suffice ts f us = weight f + 4 * length us ≤ 4 * length ts

joined : (f g h : Formula) (t : Token) (ts us vs : List Token) → weight h ≤ weight f + weight g → Suffice ts f (t ∷ us) → Suffice us g vs → Suffice ts h vs
joined f g h t ts us vs sum first second = omega arith

index_short : {ts us : List Token} {index : ℕ} → IsIndex ts index us → length us ≤ length ts
index_short Given = omega arith
index_short (LeftOut none) = omega arith

argument_short : {ts us : List Token} {a : Argument} → IsArgument ts a us → length us + 1 ≤ length ts
argument_short AVariable = omega arith
argument_short AGround = omega arith

expression_short : {ts us : List Token} {e : Expression} → IsExpression ts e us → length us + 1 ≤ length ts
expression_short (OfRoot w i) = omega (arith, index_short i)
expression_short (OfOne op w e) = omega (arith, expression_short e)
expression_short (OfTwo op w a b) = omega (arith, expression_short a, expression_short b)

relation_short : {ts us : List Token} {r : Comparison} → IsRelation ts r us → length us + 1 ≤ length ts
relation_short (WithoutIndex plain) = omega arith
relation_short (WithIndex takes i) = omega (arith, index_short i)
relation_short (OfExpression (Between h k e)) = omega (arith, expression_short e)

weight-argument : (a : Argument) → length (names_in a) + argument_numbers a ≤ 1
weight-argument (Var x) = omega arith
weight-argument (Ground k) = omega arith

weight-compared : (r : Comparison) (a b : Argument) → weight (compared r a b) ≤ 2
weight-compared (ByRules rel index) a b = omega (arith, weight-argument a, weight-argument b, length-append (names_in a) (names_in b))
weight-compared (ByExpression e number place) a b = omega (arith, weight-argument a, weight-argument b, length-append (names_in a) (names_in b))

mutual
  Suffice-formula : {ts us : List Token} {f : Formula} → IsFormula ts f us → Suffice ts f us
  Suffice-formula (OneSide i) = Suffice-implication i
  Suffice-formula {ts = ts} (BothSides {us = us} {vs = vs} {f = f} {g = g} i k) =
      joined f g (theory.Iff f g) Iff ts us vs (weight-two f g) (Suffice-implication i) (Suffice-implication k)

  Suffice-implication : {ts us : List Token} {f : Formula} → IsImplication ts f us → Suffice ts f us
  Suffice-implication (Conclusion d) = Suffice-disjunction d
  Suffice-implication {ts = ts} (Premise {us = us} {vs = vs} {f = f} {g = g} d i) =
      joined f g (theory.Imp f g) Imp ts us vs (weight-two f g) (Suffice-disjunction d) (Suffice-implication i)

  Suffice-disjunction : {ts us : List Token} {f : Formula} → IsDisjunction ts f us → Suffice ts f us
  Suffice-disjunction (FirstOr c) = Suffice-conjunction c
  Suffice-disjunction {ts = ts} (MoreOr {us = us} {vs = vs} {f = f} {g = g} d c) =
      joined f g (theory.Or f g) Or ts us vs (weight-two f g) (Suffice-disjunction d) (Suffice-conjunction c)

  Suffice-conjunction : {ts us : List Token} {f : Formula} → IsConjunction ts f us → Suffice ts f us
  Suffice-conjunction (FirstAnd u) = Suffice-unary u
  Suffice-conjunction {ts = ts} (MoreAnd {us = us} {vs = vs} {f = f} {g = g} c u) =
      joined f g (theory.And f g) And ts us vs (weight-two f g) (Suffice-conjunction c) (Suffice-unary u)

  Suffice-unary : {ts us : List Token} {f : Formula} → IsUnary ts f us → Suffice ts f us
  Suffice-unary (Negated u) = let inner = Suffice-unary u in omega arith
  Suffice-unary (ForSome b) = let inner = Suffice-bound b in omega arith
  Suffice-unary (ForEvery b) = let inner = Suffice-bound b in omega arith
  Suffice-unary (Infinitely {x = x} {f = f} d) = let inner = Suffice-formula d in omega (arith, length-without x (occurrences f))
  Suffice-unary (Enclosed d) = let inner = Suffice-formula d in omega arith
  Suffice-unary Truth = omega arith
  Suffice-unary Falsity = omega arith
  Suffice-unary (Named i) = omega (arith, index_short i)
  Suffice-unary Commuting = omega arith
  Suffice-unary (AllTerminating i none) = omega (arith, index_short i)
  Suffice-unary (Terminating {a = a} i x) = omega (arith, index_short i, argument_short x, weight-argument a)
  Suffice-unary (NormalForm {a = a} i x) = omega (arith, index_short i, argument_short x, weight-argument a)
  Suffice-unary (Joinable {a = a} {b = b} i x y) =
      omega (arith, index_short i, argument_short x, argument_short y, weight-argument a, weight-argument b, length-append (names_in a) (names_in b))
  Suffice-unary (Compared {a = a} {b = b} {r = s} x r y) =
      omega (arith, relation_short r, argument_short x, argument_short y, weight-compared s a b)

  Suffice-bound : {q : Quantifier} {ts us : List Token} {f : Formula} → IsBound q ts f us → Suffice ts f us
  Suffice-bound (LastBinder {q = q} {x = x} {f = f} d) = let inner = Suffice-formula d in omega (arith, weight-quantified q x f)
  Suffice-bound (MoreBinders {q = q} {x = x} {f = f} b) = let inner = Suffice-bound b in omega (arith, weight-quantified q x f)

-- Result: the numbers of a formula of a text are few
pub IsFormula-few : (tokens : List Token) (f : Formula) → IsFormula tokens f [] → length tokens ≤ most_tokens → numbers_needed f < 2 ^ 32
IsFormula-few tokens f whole few = let paid = Suffice-formula whole in omega (arith, paid, few, numbers_needed-weight f)

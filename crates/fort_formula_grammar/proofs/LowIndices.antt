-- Each index that the formula of a text mentions is at least 1.
use Rattle.std.proofs.Common.{◌≡◌, ℕ, ◌≤◌, List, [], ◌∷◌, ◌++◌, inl, inr, refl, sym, subst, arith}
use Rattle.std.specs.Prelude.{Contains}
use Rattle.std.proofs.lemmas.List.Elements.{Contains-append_right, Contains-append_cases}
use Rattle.fort_theory.proofs.Members.{Contains-head, Contains-behind, Contains-cons_cases, Contains-none}
use Rattle.fort_theory.specs.Expressions.{Expression, root_indices}
use Rattle.fort_logic.specs.Formulas.{Name, Argument, Formula, Com}
use Rattle.fort_logic.specs.Mentions.{indices}
use Rattle.fort_formula_grammar.specs.Tokens.{Token, Index, IsToken}
use Rattle.fort_formula_grammar.specs.TokenText.{Reads, Nothing, Blank, Next}
use Rattle.fort_formula_grammar.specs.ExpressionGrammar.{IsIndex, Given, LeftOut, OneOperand, Inv, Clos, TwoOperands, Uni, Comp, of_one, of_two, IsExpression, OfRoot, OfOne, OfTwo, Between}
use Rattle.fort_formula_grammar.specs.FormulaGrammar as grammar
use Rattle.fort_formula_grammar.specs.FormulaGrammar.{Quantifier, quantified, Comparison, compared, IsRelation, WithoutIndex, WithIndex, OfExpression, IsFormula, IsImplication, IsDisjunction, IsConjunction, IsUnary, IsBound, OneSide, BothSides, Conclusion, Premise, FirstOr, MoreOr, FirstAnd, MoreAnd, Negated, ForSome, ForEvery, Infinitely, Enclosed, Truth, Falsity, Named, Commuting, AllTerminating, Terminating, NormalForm, Joinable, Compared, LastBinder, MoreBinders}
use Rattle.fort_formula_grammar.specs.FormulaText.{IsFormulaText}
use Rattle.fort_formula_grammar.proofs.LocalParts.{Local}
use Rattle.fort_formula_grammar.proofs.ExpressionLocal.{expression-local}
use Rattle.fort_formula_grammar.proofs.LocalReadings.{argument-local, implication-local, disjunction-local, conjunction-local}

-- each index that is written among the tokens is at least 1
pub record Low (ts : List Token) : Type 0 where
  pub each : (k : ℕ) → Contains ts (Index k) → 1 ≤ k

-- each index that a formula mentions is
abbrev Mentioned : Formula → Type 0
Mentioned f = (k : ℕ) → Contains (indices f) k → 1 ≤ k

-- each index that an expression mentions is
abbrev RootsLow : Expression → Type 0
RootsLow e = (k : ℕ) → Contains (root_indices e) k → 1 ≤ k

later : {ts : List Token} (t : Token) → Low (t ∷ ts) → Low ts
later {ts} t low = record { each = λ k c. low.each k (Contains-behind t ts (Index k) c) }

behind : {K : List Token → List Token → Type 0} {ts us : List Token} → Local K ts us → Low ts → Low us
behind {us = us} r low = record { each = λ k c. low.each k (subst (λ w. Contains w (Index k)) (sym r.is) (Contains-append_right r.read us (Index k) c)) }

one_low : (n : ℕ) → 1 ≤ n → (k : ℕ) → Contains (n ∷ []) k → 1 ≤ k
one_low n low k c = elim (Contains-cons_cases n [] k c) [ inl e ↦ omega arith | inr d ↦ absurd (Contains-none k d) ]

index_low : {ts us : List Token} {n : ℕ} → IsIndex ts n us → Low ts → 1 ≤ n
index_low (Given {n = n} {us = us}) low = low.each n (Contains-head (Index n) us)
index_low (LeftOut none) low = omega arith

both_roots_low : (op : TwoOperands) (a b : Expression) → RootsLow a → RootsLow b → RootsLow (of_two op a b)
both_roots_low Uni a b p q k c = elim (Contains-append_cases (root_indices a) (root_indices b) k c) [ inl d ↦ p k d | inr d ↦ q k d ]
both_roots_low Comp a b p q k c = elim (Contains-append_cases (root_indices a) (root_indices b) k c) [ inl d ↦ p k d | inr d ↦ q k d ]

one_roots_low : (op : OneOperand) (e : Expression) → RootsLow e → RootsLow (of_one op e)
one_roots_low Inv e p k c = p k c
one_roots_low Clos e p k c = p k c

expression_low : {ts us : List Token} {e : Expression} → IsExpression ts e us → Low ts → RootsLow e
expression_low (OfRoot {index = n} w i) low = one_low n (index_low i (later _ low))
expression_low (OfOne op {e = e} w p) low = one_roots_low op e (expression_low p (later _ (later _ low)))
expression_low (OfTwo op {a = a} {b = b} w p q) low =
    let inside = later _ (later _ low) in
    both_roots_low op a b (expression_low p inside) (expression_low q (later _ (behind (expression-local p) inside)))

relation_low : {ts us : List Token} {r : Comparison} → IsRelation ts r us → Low ts → (a b : Argument) → Mentioned (compared r a b)
relation_low (WithoutIndex none) low a b = one_low 1 (omega arith)
relation_low (WithIndex {index = n} takes i) low a b = one_low n (index_low i (later _ low))
relation_low (OfExpression (Between h k e)) low a b = expression_low e (later _ low)

both_low : (f g : Formula) (k : ℕ) → Mentioned f → Mentioned g → Contains (indices f ++ indices g) k → 1 ≤ k
both_low f g k p q c = elim (Contains-append_cases (indices f) (indices g) k c) [ inl a ↦ p k a | inr b ↦ q k b ]

quantified_indices : (q : Quantifier) (x : Name) (f : Formula) → indices (quantified q x f) ≡ indices f
quantified_indices grammar.Some x f = refl
quantified_indices grammar.Every x f = refl

bound_low : (q : Quantifier) (x : Name) (f : Formula) → Mentioned f → Mentioned (quantified q x f)
bound_low q x f p k c = p k (subst (λ w. Contains w k) (quantified_indices q x f) c)

com_low : Mentioned Com
com_low k c = elim (Contains-cons_cases 1 (2 ∷ []) k c) [ inl e ↦ omega arith | inr d ↦ one_low 2 (omega arith) k d ]

mutual
  formula_low : {ts us : List Token} {f : Formula} → IsFormula ts f us → Low ts → Mentioned f
  formula_low (OneSide i) low = implication_low i low
  formula_low (BothSides {f = f} {g = g} i j) low =
      λ k c. both_low f g k (implication_low i low) (implication_low j (later _ (behind (implication-local i) low))) c

  implication_low : {ts us : List Token} {f : Formula} → IsImplication ts f us → Low ts → Mentioned f
  implication_low (Conclusion d) low = disjunction_low d low
  implication_low (Premise {f = f} {g = g} d i) low =
      λ k c. both_low f g k (disjunction_low d low) (implication_low i (later _ (behind (disjunction-local d) low))) c

  disjunction_low : {ts us : List Token} {f : Formula} → IsDisjunction ts f us → Low ts → Mentioned f
  disjunction_low (FirstOr d) low = conjunction_low d low
  disjunction_low (MoreOr {f = f} {g = g} d e) low =
      λ k c. both_low f g k (disjunction_low d low) (conjunction_low e (later _ (behind (disjunction-local d) low))) c

  conjunction_low : {ts us : List Token} {f : Formula} → IsConjunction ts f us → Low ts → Mentioned f
  conjunction_low (FirstAnd u) low = unary_low u low
  conjunction_low (MoreAnd {f = f} {g = g} d u) low =
      λ k c. both_low f g k (conjunction_low d low) (unary_low u (later _ (behind (conjunction-local d) low))) c

  unary_low : {ts us : List Token} {f : Formula} → IsUnary ts f us → Low ts → Mentioned f
  unary_low (Negated u) low = unary_low u (later _ low)
  unary_low (ForSome b) low = binders_low b (later _ low)
  unary_low (ForEvery b) low = binders_low b (later _ low)
  unary_low (Infinitely d) low = formula_low d (later _ (later _ (later _ low)))
  unary_low (Enclosed d) low = formula_low d (later _ low)
  unary_low Truth low = λ k c. absurd (Contains-none k c)
  unary_low Falsity low = λ k c. absurd (Contains-none k c)
  unary_low (Named {index = n} i) low = one_low n (index_low i (later _ low))
  unary_low Commuting low = com_low
  unary_low (AllTerminating {index = n} i none) low = one_low n (index_low i (later _ low))
  unary_low (Terminating {index = n} i a) low = one_low n (index_low i (later _ low))
  unary_low (NormalForm {index = n} i a) low = one_low n (index_low i (later _ low))
  unary_low (Joinable {index = n} i p q) low = one_low n (index_low i (later _ low))
  unary_low (Compared {a = a} {b = b} p r q) low = relation_low r (behind (argument-local p) low) a b

  binders_low : {q : Quantifier} {ts us : List Token} {f : Formula} → IsBound q ts f us → Low ts → Mentioned f
  binders_low (LastBinder {q = q} {x = x} {f = f} d) low = bound_low q x f (formula_low d (later _ (later _ low)))
  binders_low (MoreBinders {q = q} {x = x} {f = f} b) low = bound_low q x f (binders_low b (later _ (later _ low)))

-- an index that is written is one that can be
read_low : {n : ℕ} {text rest : List ℕ} {tokens : List Token} → Reads n text tokens rest → (k : ℕ) → Contains tokens (Index k) → 1 ≤ k
read_low Nothing k c = absurd (Contains-none (Index k) c)
read_low (Blank blank r) k c = read_low r k c
read_low (Next {token = token} {tokens = tokens} begins place r) k c =
    elim (Contains-cons_cases token tokens (Index k) c) [
      | inl e ↦ (subst IsToken e begins.proper).0
      | inr d ↦ read_low r k d
    ]

-- Result
pub indices-low : {text : List ℕ} {f : Formula} → IsFormulaText text f → (k : ℕ) → Contains (indices f) k → 1 ≤ k
indices-low is = formula_low is.formula (record { each = read_low is.read })

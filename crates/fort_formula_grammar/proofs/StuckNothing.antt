-- Where a reading is stuck, no formula of the kind begins the tokens.
use Rattle.std.proofs.Common.{◌≡◌, ℕ, true, false, List, [], ◌∷◌, refl, sym, ap, ◌∙◌, subst}
use Rattle.std.proofs.lemmas.Bool.{true≢false}
use Rattle.fort_logic.specs.Formulas.{Name, Argument, Formula}
use Rattle.fort_formula_grammar.specs.Tokens.{Token, Open, Close, Comma, Not, Exists, Forall, Infinite, Nf, Join, Sn, Variable}
use Rattle.fort_formula_grammar.specs.ExpressionGrammar.{IsIndex, Between}
use Rattle.fort_formula_grammar.specs.FormulaGrammar as grammar
use Rattle.fort_formula_grammar.specs.FormulaGrammar.{Quantifier, begins_with_open, Comparison, IsArgument, IsRelation, WithoutIndex, WithIndex, OfExpression, AVariable, AGround, IsFormula, IsUnary, IsBound, Negated, ForSome, ForEvery, Infinitely, Enclosed, Truth, Falsity, Named, Commuting, AllTerminating, Terminating, NormalForm, Joinable, Compared, LastBinder, MoreBinders}
use Rattle.fort_formula_grammar.specs.Continuations.{continues_formula, begins_relation, HasNoNext, HasNoVariable, HasNoArgument, HasNoUnary, HasNoBound, HasNoConjunction, HasNoDisjunction, HasNoImplication, HasNoFormula}
use Rattle.fort_formula_grammar.specs.StuckExpressions.{StuckEnclosed}
use Rattle.fort_formula_grammar.specs.Stuck.{starts_unary, StuckFormula, StuckImplication, StuckDisjunction, StuckConjunction, StuckUnary, StuckBinders, StuckBody, StuckWhole, OnTheLeft, OnTheRight, SecondIff, InPremise, InConclusion, InFirstOr, InMoreOr, InFirstAnd, InMoreAnd, NoUnary, UnderNot, UnderExists, UnderForall, NoInfiniteVariable, UnderInfinite, Within, NfUnopened, NfWithoutArgument, NfUnclosed, SnWithoutArgument, SnUnclosed, JoinUnopened, JoinWithoutArgument, JoinOfOne, JoinHalf, JoinUnclosed, Unrelated, InRelation, RelatedToNothing, NoBinder, InMoreBinders, BehindBinders, Unopened, Inside, Unclosed, InFormula, BehindFormula}
use Rattle.fort_formula_grammar.proofs.IndexUnique.{same_behind, IsIndex-unique, argument_behind}
use Rattle.fort_formula_grammar.proofs.RelationUnique.{IsRelation-unique}
use Rattle.fort_formula_grammar.proofs.StuckExpressionLaws.{StuckEnclosed-nothing}
use Rattle.fort_formula_grammar.proofs.FormulaUnique.{formula-unique}
use Rattle.fort_formula_grammar.proofs.StuckLocal.{IsBody, Parenthesized}
use Rattle.fort_formula_grammar.proofs.StuckLevels.{conjunction-none, conjunction-stuck, disjunction-none, disjunction-stuck, implication-none, implication-stuck, formula-none, formula-stuck, formula-over}

-- no formula in parentheses begins the tokens
abbrev HasNoBody : List Token → Type 0
HasNoBody ts = (f : Formula) (us : List Token) → IsBody ts f us → ⊥

argument_started : {ts us : List Token} {a : Argument} → IsArgument ts a us → starts_unary ts ≡ true
argument_started AVariable = refl
argument_started AGround = refl

unary_started : {ts us : List Token} {f : Formula} → IsUnary ts f us → starts_unary ts ≡ true
unary_started (Negated u) = refl
unary_started (ForSome b) = refl
unary_started (ForEvery b) = refl
unary_started (Infinitely d) = refl
unary_started (Enclosed d) = refl
unary_started Truth = refl
unary_started Falsity = refl
unary_started (Named i) = refl
unary_started Commuting = refl
unary_started (AllTerminating i none) = refl
unary_started (Terminating i a) = refl
unary_started (NormalForm i a) = refl
unary_started (Joinable i a b) = refl
unary_started (Compared a r b) = argument_started a

not_rest : {us vs : List Token} {f : Formula} → HasNoUnary us → IsUnary (Not ∷ us) f vs → ⊥
not_rest none (Negated u) = none _ _ u
not_rest none (Compared a r b) = elim a [ ]

some_rest : {us vs : List Token} {f : Formula} → HasNoBound grammar.Some us → IsUnary (Exists ∷ us) f vs → ⊥
some_rest none (ForSome b) = none _ _ b
some_rest none (Compared a r b) = elim a [ ]

every_rest : {us vs : List Token} {f : Formula} → HasNoBound grammar.Every us → IsUnary (Forall ∷ us) f vs → ⊥
every_rest none (ForEvery b) = none _ _ b
every_rest none (Compared a r b) = elim a [ ]

infinite_name : {us vs : List Token} {f : Formula} → HasNoVariable us → IsUnary (Infinite ∷ us) f vs → ⊥
infinite_name none (Infinitely d) = none _ _ refl
infinite_name none (Compared a r b) = elim a [ ]

infinite_rest : {x : Name} {us vs : List Token} {f : Formula} → HasNoBody us → IsUnary (Infinite ∷ Variable x ∷ us) f vs → ⊥
infinite_rest none (Infinitely d) = none _ _ (Parenthesized d)
infinite_rest none (Compared a r b) = elim a [ ]

open_rest : {us vs : List Token} {f : Formula} → HasNoBody (Open ∷ us) → IsUnary (Open ∷ us) f vs → ⊥
open_rest none (Enclosed d) = none _ _ (Parenthesized d)
open_rest none (Compared a r b) = elim a [ ]

-- behind NF and its index
nf_rest : {ts us vs : List Token} {f : Formula} {n : ℕ} → IsIndex ts n us
    → ((a : Argument) (xs zs : List Token) → us ≡ Open ∷ xs → IsArgument xs a (Close ∷ zs) → ⊥) → IsUnary (Nf ∷ ts) f vs → ⊥
nf_rest i none (NormalForm j a) = none _ _ _ (IsIndex-unique i j).1 a
nf_rest i none (Compared a r b) = elim a [ ]

-- behind SN, its index and a (
sn_rest : {ts us vs : List Token} {f : Formula} {n : ℕ} → IsIndex ts n (Open ∷ us)
    → ((a : Argument) (xs zs : List Token) → us ≡ xs → IsArgument xs a (Close ∷ zs) → ⊥) → IsUnary (Sn ∷ ts) f vs → ⊥
sn_rest i none (AllTerminating j unopened) = true≢false (ap begins_with_open (IsIndex-unique i j).1 ∙ unopened)
sn_rest i none (Terminating j a) = none _ _ _ (same_behind (IsIndex-unique i j).1) a
sn_rest i none (Compared a r b) = elim a [ ]

-- behind JOIN and its index
join_rest : {ts us vs : List Token} {f : Formula} {n : ℕ} → IsIndex ts n us
    → ((a b : Argument) (xs ys zs : List Token) → us ≡ Open ∷ xs → IsArgument xs a (Comma ∷ ys) → IsArgument ys b (Close ∷ zs) → ⊥)
    → IsUnary (Join ∷ ts) f vs → ⊥
join_rest i none (Joinable j a b) = none _ _ _ _ _ (IsIndex-unique i j).1 a b
join_rest i none (Compared a r b) = elim a [ ]

no_argument : {us vs ws : List Token} {a : Argument} → HasNoArgument us → us ≡ vs → IsArgument vs a ws → ⊥
no_argument {ws = ws} {a = a} none e p = none a ws (subst (λ w. IsArgument w a ws) (sym e) p)

relation_begun : {us vs : List Token} {r : Comparison} → IsRelation us r vs → begins_relation us ≡ true
relation_begun (WithoutIndex e) = refl
relation_begun (WithIndex e i) = refl
relation_begun (OfExpression (Between h k e)) = refl

-- an argument, and behind it no relation, one that is stuck, and one with no argument behind it
unrelated : {ts us vs : List Token} {f : Formula} {a : Argument} → IsArgument ts a us → ((r : Comparison) (ws : List Token) → IsRelation us r ws → ⊥)
    → IsUnary ts f vs → ⊥
unrelated AVariable none (Compared AVariable r b) = none _ _ r
unrelated AGround none (Compared AGround r b) = none _ _ r

stuck_relation : {us vs ws : List Token} {r : Comparison} → StuckEnclosed us vs → IsRelation us r ws → ⊥
stuck_relation s (WithoutIndex e) = elim s [ ]
stuck_relation s (WithIndex e i) = elim s [ ]
stuck_relation s (OfExpression e) = StuckEnclosed-nothing s _ _ _ _ e

related_to_nothing : {ts us vs ws : List Token} {f : Formula} {a : Argument} {r : Comparison} → IsArgument ts a us → IsRelation us r vs
    → HasNoArgument vs → IsUnary ts f ws → ⊥
related_to_nothing AVariable r none (Compared AVariable s b) = no_argument none (IsRelation-unique r s).1 b
related_to_nothing AGround r none (Compared AGround s b) = no_argument none (IsRelation-unique r s).1 b

no_binder : {q : Quantifier} {us vs : List Token} {f : Formula} → HasNoVariable us → IsBound q us f vs → ⊥
no_binder none (LastBinder d) = none _ _ refl
no_binder none (MoreBinders b) = none _ _ refl

no_others : {q : Quantifier} {x : Name} {us vs : List Token} {f : Formula} → HasNoBound q us → IsBound q (Variable x ∷ Comma ∷ us) f vs → ⊥
no_others none (MoreBinders b) = none _ _ b

behind_binders : {q : Quantifier} {x : Name} {us vs : List Token} {f : Formula} → HasNoNext Comma us → HasNoBody us
    → IsBound q (Variable x ∷ us) f vs → ⊥
behind_binders comma none (LastBinder d) = none _ _ (Parenthesized d)
behind_binders comma none (MoreBinders b) = comma _ refl

unopened : {us vs : List Token} {f : Formula} → HasNoNext Open us → IsBody us f vs → ⊥
unopened none (Parenthesized d) = none _ refl

inside : {us vs : List Token} {f : Formula} → HasNoFormula us → IsBody (Open ∷ us) f vs → ⊥
inside none (Parenthesized d) = none _ _ d refl

unclosed : {ts us vs : List Token} {f g : Formula} → IsFormula ts f us → continues_formula us ≡ false → HasNoNext Close us
    → IsBody (Open ∷ ts) g vs → ⊥
unclosed d e none (Parenthesized c) = none _ (formula-unique d e c refl).1

mutual
  StuckFormula-nothing : {ts us : List Token} → StuckFormula ts us → HasNoFormula ts
  StuckFormula-nothing (OnTheLeft s) = formula-none (StuckImplication-nothing s)
  StuckFormula-nothing (OnTheRight i s) = formula-stuck i (StuckImplication-nothing s)
  StuckFormula-nothing (SecondIff i j) = formula-over i j refl refl

  StuckImplication-nothing : {ts us : List Token} → StuckImplication ts us → HasNoImplication ts
  StuckImplication-nothing (InPremise s) = implication-none (StuckDisjunction-nothing s)
  StuckImplication-nothing (InConclusion d s) = implication-stuck d (StuckImplication-nothing s)

  StuckDisjunction-nothing : {ts us : List Token} → StuckDisjunction ts us → HasNoDisjunction ts
  StuckDisjunction-nothing (InFirstOr s) = disjunction-none (StuckConjunction-nothing s)
  StuckDisjunction-nothing (InMoreOr d s) = disjunction-stuck d (StuckConjunction-nothing s)

  StuckConjunction-nothing : {ts us : List Token} → StuckConjunction ts us → HasNoConjunction ts
  StuckConjunction-nothing (InFirstAnd s) = conjunction-none (StuckUnary-nothing s)
  StuckConjunction-nothing (InMoreAnd c s) = conjunction-stuck c (StuckUnary-nothing s)

  StuckUnary-nothing : {ts us : List Token} → StuckUnary ts us → HasNoUnary ts
  StuckUnary-nothing (NoUnary e) f vs u = true≢false (sym (unary_started u) ∙ e)
  StuckUnary-nothing (UnderNot s) f vs u = not_rest (StuckUnary-nothing s) u
  StuckUnary-nothing (UnderExists s) f vs u = some_rest (StuckBinders-nothing s grammar.Some) u
  StuckUnary-nothing (UnderForall s) f vs u = every_rest (StuckBinders-nothing s grammar.Every) u
  StuckUnary-nothing (NoInfiniteVariable none) f vs u = infinite_name none u
  StuckUnary-nothing (UnderInfinite s) f vs u = infinite_rest (StuckBody-nothing s) u
  StuckUnary-nothing (Within s) f vs u = open_rest (StuckBody-nothing s) u
  StuckUnary-nothing (NfUnopened i none) f vs u = nf_rest i (λ a xs zs e b. none xs e) u
  StuckUnary-nothing (NfWithoutArgument i none) f vs u = nf_rest i (λ a xs zs e b. no_argument none (same_behind e) b) u
  StuckUnary-nothing (NfUnclosed i a none) f vs u = nf_rest i (λ b xs zs e c. none zs (argument_behind (same_behind e) a c).1) u
  StuckUnary-nothing (SnWithoutArgument i none) f vs u = sn_rest i (λ a xs zs e b. no_argument none e b) u
  StuckUnary-nothing (SnUnclosed i a none) f vs u = sn_rest i (λ b xs zs e c. none zs (argument_behind e a c).1) u
  StuckUnary-nothing (JoinUnopened i none) f vs u = join_rest i (λ a b xs ys zs e c d. none xs e) u
  StuckUnary-nothing (JoinWithoutArgument i none) f vs u = join_rest i (λ a b xs ys zs e c d. no_argument none (same_behind e) c) u
  StuckUnary-nothing (JoinOfOne i a none) f vs u =
      join_rest i (λ b c xs ys zs e p q. none ys (argument_behind (same_behind e) a p).1) u
  StuckUnary-nothing (JoinHalf i a none) f vs u =
      join_rest i (λ b c xs ys zs e p q. no_argument none (same_behind (argument_behind (same_behind e) a p).1) q) u
  StuckUnary-nothing (JoinUnclosed i a b none) f vs u =
      join_rest i (λ c d xs ys zs e p q. none zs (argument_behind (same_behind (argument_behind (same_behind e) a p).1) b q).1) u
  StuckUnary-nothing (Unrelated a none) f vs u = unrelated a (λ r ws p. true≢false (sym (relation_begun p) ∙ none)) u
  StuckUnary-nothing (InRelation a s) f vs u = unrelated a (λ r ws p. stuck_relation s p) u
  StuckUnary-nothing (RelatedToNothing a r none) f vs u = related_to_nothing a r none u

  StuckBinders-nothing : {ts us : List Token} → StuckBinders ts us → (q : Quantifier) → HasNoBound q ts
  StuckBinders-nothing (NoBinder none) q f vs b = no_binder none b
  StuckBinders-nothing (InMoreBinders s) q f vs b = no_others (StuckBinders-nothing s q) b
  StuckBinders-nothing (BehindBinders none s) q f vs b = behind_binders none (StuckBody-nothing s) b

  StuckBody-nothing : {ts us : List Token} → StuckBody ts us → HasNoBody ts
  StuckBody-nothing (Unopened none) f vs b = unopened none b
  StuckBody-nothing (Inside s) f vs b = inside (StuckFormula-nothing s) b
  StuckBody-nothing (Unclosed d e none) f vs b = unclosed d e none b

-- and where all tokens are to be one formula, they are none
pub StuckWhole-nothing : {ts us : List Token} → StuckWhole ts us → (f : Formula) → IsFormula ts f [] → ⊥
StuckWhole-nothing (InFormula s) f d = StuckFormula-nothing s f [] d refl
StuckWhole-nothing (BehindFormula c e) f d = let same = (formula-unique c e d refl).1 in cc

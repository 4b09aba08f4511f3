-- A conjunction or disjunction is a first part and a tail of more; and what doesn't go on with a formula goes on with nothing in it.
use Rattle.std.proofs.Common.{◌≡◌, false, List, [], ◌∷◌, ◌⊎◌, inl, inr, refl, sym}
use Rattle.std.proofs.lemmas.Bool.{true≢false}
use Rattle.fort_logic.specs.Formulas as theory
use Rattle.fort_logic.specs.Formulas.{Formula}
use Rattle.fort_formula_grammar.specs.Tokens.{Token, And, Or, Imp}
use Rattle.fort_formula_grammar.specs.FormulaGrammar.{IsDisjunction, IsConjunction, IsUnary, FirstAnd, MoreAnd, FirstOr, MoreOr}
use Rattle.fort_formula_grammar.specs.Continuations.{continues_conjunction, continues_disjunction, continues_implication, continues_formula}

pub disjunction-not_conjunction : (ts : List Token) → continues_disjunction ts ≡ false → continues_conjunction ts ≡ false
disjunction-not_conjunction [] h = refl
disjunction-not_conjunction (And ∷ ts) h = h
disjunction-not_conjunction (t ∷ ts) h = refl

pub implication-not_disjunction : (ts : List Token) → continues_implication ts ≡ false → continues_disjunction ts ≡ false
implication-not_disjunction [] h = refl
implication-not_disjunction (And ∷ ts) h = h
implication-not_disjunction (Or ∷ ts) h = h
implication-not_disjunction (t ∷ ts) h = refl

pub formula-not_implication : (ts : List Token) → continues_formula ts ≡ false → continues_implication ts ≡ false
formula-not_implication [] h = refl
formula-not_implication (And ∷ ts) h = h
formula-not_implication (Or ∷ ts) h = h
formula-not_implication (Imp ∷ ts) h = h
formula-not_implication (t ∷ ts) h = refl

-- where f is read up to some tokens, and they are read on as a conjunction, that is g, up to the last tokens
pub data AndTail : Formula → List Token → Formula → List Token → Type 0 where
  NoAnd : {ts : List Token} {f : Formula} → AndTail f ts f ts
  OneAnd : {ts us vs : List Token} {f g h : Formula} → IsUnary ts g us → AndTail (theory.And f g) us h vs → AndTail f (And ∷ ts) h vs

-- one more at the end of a tail
pub AndTail-push : {ts us vs : List Token} {f g h : Formula} → AndTail f ts g (And ∷ us) → IsUnary us h vs → AndTail f ts (theory.And g h) vs
AndTail-push NoAnd u = OneAnd u NoAnd
AndTail-push (OneAnd v t) u = OneAnd v (AndTail-push t u)

pub record AndParts (ts : List Token) (f : Formula) (us : List Token) : Type 0 where
  pub first : Formula
  pub between : List Token
  pub unary : IsUnary ts first between
  pub tail : AndTail first between f us

pub and_parts : {ts us : List Token} {f : Formula} → IsConjunction ts f us → AndParts ts f us
and_parts (FirstAnd u) = record { first = _; between = _; unary = u; tail = NoAnd }
and_parts (MoreAnd c u) = let p = and_parts c in record { first = p.first; between = p.between; unary = p.unary; tail = AndTail-push p.tail u }

-- the same of disjunctions
pub data OrTail : Formula → List Token → Formula → List Token → Type 0 where
  NoOr : {ts : List Token} {f : Formula} → OrTail f ts f ts
  OneOr : {ts us vs : List Token} {f g h : Formula} → IsConjunction ts g us → OrTail (theory.Or f g) us h vs → OrTail f (Or ∷ ts) h vs

pub OrTail-push : {ts us vs : List Token} {f g h : Formula} → OrTail f ts g (Or ∷ us) → IsConjunction us h vs → OrTail f ts (theory.Or g h) vs
OrTail-push NoOr c = OneOr c NoOr
OrTail-push (OneOr d t) c = OneOr d (OrTail-push t c)

pub record OrParts (ts : List Token) (f : Formula) (us : List Token) : Type 0 where
  pub first : Formula
  pub between : List Token
  pub conjunction : IsConjunction ts first between
  pub tail : OrTail first between f us

pub or_parts : {ts us : List Token} {f : Formula} → IsDisjunction ts f us → OrParts ts f us
or_parts (FirstOr c) = record { first = _; between = _; conjunction = c; tail = NoOr }
or_parts (MoreOr d c) = let p = or_parts d in record { first = p.first; between = p.between; conjunction = p.conjunction; tail = OrTail-push p.tail c }

-- before a tail that ends where no conjunction goes on, none does
pub OrTail-begin : {ts us : List Token} {f g : Formula} → OrTail f ts g us → continues_conjunction us ≡ false → continues_conjunction ts ≡ false
OrTail-begin NoOr e = e
OrTail-begin (OneOr c t) e = refl

-- a tail from where nothing goes on is empty
pub AndTail-ended : {ts us : List Token} {f g : Formula} → AndTail f ts g us → continues_conjunction ts ≡ false → (f ≡ g) × (ts ≡ us)
AndTail-ended NoAnd e = (refl, refl)
AndTail-ended (OneAnd u t) e = absurd (true≢false e)

pub OrTail-ended : {ts us : List Token} {f g : Formula} → OrTail f ts g us → continues_disjunction ts ≡ false → (f ≡ g) × (ts ≡ us)
OrTail-ended NoOr e = (refl, refl)
OrTail-ended (OneOr c t) e = absurd (true≢false e)

-- of two readings one is the front of the other
abbrev pub AreAndFronts : Formula → List Token → Formula → List Token → Type 0
AreAndFronts f us g vs = AndTail f us g vs ⊎ AndTail g vs f us

pub AreAndFronts-ended : {us vs : List Token} {f g : Formula} → AreAndFronts f us g vs → continues_conjunction us ≡ false → continues_conjunction vs ≡ false
    → (f ≡ g) × (us ≡ vs)
AreAndFronts-ended (inl t) p q = AndTail-ended t p
AreAndFronts-ended (inr t) p q = let same = AndTail-ended t q in (sym same.0, sym same.1)

abbrev pub AreOrFronts : Formula → List Token → Formula → List Token → Type 0
AreOrFronts f us g vs = OrTail f us g vs ⊎ OrTail g vs f us

pub AreOrFronts-ended : {us vs : List Token} {f g : Formula} → AreOrFronts f us g vs → continues_disjunction us ≡ false → continues_disjunction vs ≡ false
    → (f ≡ g) × (us ≡ vs)
AreOrFronts-ended (inl t) p q = OrTail-ended t p
AreOrFronts-ended (inr t) p q = let same = OrTail-ended t q in (sym same.0, sym same.1)

-- No mark of an atom stands twice where no pattern does.
use Rattle.std.specs.Prelude.{◌≡◌, ℕ, zero, suc, ◌<◌, List, [], ◌∷◌, ◌++◌, map, length, get_or, Contains}
use Rattle.std.proofs.Common.{sym, subst, ◌∙◌, arith, inl, inr}
use Rattle.std.proofs.lemmas.List.{get_or_default}
use Rattle.std.proofs.lemmas.List.Elements.{Contains-append_cases, Contains-get_or}
use Rattle.fort_theory.specs.Patterns.{Pattern, Any}
use Rattle.fort_theory.specs.PatternOrder.{PatternBefore}
use Rattle.fort_theory.proofs.ClosedPatterns.{PatternBefore-irreflexive}
use Rattle.fort_theory.proofs.Lists.{Contains-map_from}
use Rattle.fort_theory.proofs.Members.{Contains-none, Contains-cons_cases, Contains-head, Contains-behind}
use Rattle.fort_alike.specs.Atoms.{AtomKind, EqKind, RootKind, StepKind, BelowKind, ParKind, NfKind, StarKind, PlusKind}
use Rattle.fort_alike.specs.Alike.{Fact, Same, Steps, StepsBelow, StepsInParallel, IsNormal, Goes, GoesStrictly, facts_of}
use Rattle.fort_alike.specs.ListedAtoms.{Mark, OfFirst, OfSecond, OfBoth, ListedAtom}
use Rattle.fort_alike.specs.AtomRules.{marks_of}
use Rattle.fort_alike.proofs.BitPlaces.{NoneTwice}

abbrev IsSet : {A : Type 0} → List A → Type 0
IsSet [] = Unit {0}
IsSet (x ∷ xs) = (Contains xs x → ⊥) × IsSet xs

-- a list in order has no pattern twice
IsSet-ordered : (ps : List Pattern) → ((i j : ℕ) → i < j → j < length ps → PatternBefore (get_or ps i Any) (get_or ps j Any)) → IsSet ps
IsSet-ordered [] ordered = tt
IsSet-ordered (p ∷ ps) ordered = (
  (λ c.
      let before : PatternBefore p (get_or ps c.0 Any) = ordered 0 (suc c.0) (omega arith) (let l : c.0 < length ps = c.1 in omega arith) in
      let same : get_or ps c.0 Any ≡ p = get_or_default ps c.0 Any p c.1 ∙ c.2 in
      PatternBefore-irreflexive p (subst (PatternBefore p) same before)),
  IsSet-ordered ps (λ i j l m. ordered (suc i) (suc j) (omega arith) (omega arith)),
)

IsSet-map : {A B : Type 0} (f : A → B) → ((x y : A) → f x ≡ f y → x ≡ y) → (xs : List A) → IsSet xs → IsSet (map f xs)
IsSet-map f one [] h = tt
IsSet-map f one (x ∷ xs) h = (
  (λ c. let w = Contains-map_from f xs (f x) c in h.0 (subst (Contains xs) (one w.0 x w.2) w.1)),
  IsSet-map f one xs h.1,
)

IsSet-append : {A : Type 0} (xs ys : List A) → IsSet xs → IsSet ys → ((z : A) → Contains xs z → Contains ys z → ⊥) → IsSet (xs ++ ys)
IsSet-append [] ys h k apart = k
IsSet-append (x ∷ xs) ys h k apart = (
  (λ c. elim (Contains-append_cases xs ys x c) [ inl l ↦ h.0 l | inr r ↦ apart x (Contains-head x xs) r ]),
  IsSet-append xs ys h.1 k (λ z c d. apart z (Contains-behind x xs z c) d),
)

NoneTwice-IsSet : (xs : List Mark) → IsSet xs → NoneTwice xs
NoneTwice-IsSet [] h i j d l m e = omega arith
NoneTwice-IsSet (x ∷ xs) h zero zero d l m e = omega arith
NoneTwice-IsSet (x ∷ xs) h zero (suc j) d l m e = h.0 (subst (Contains xs) (sym e) (Contains-get_or xs j d (omega arith)))
NoneTwice-IsSet (x ∷ xs) h (suc i) zero d l m e = omega arith
NoneTwice-IsSet (x ∷ xs) h (suc i) (suc j) d l m e = NoneTwice-IsSet xs h.1 i j d (omega arith) (omega arith) e

not-one : {A : Type 0} (x y : A) → (x ≡ y → ⊥) → Contains (y ∷ []) x → ⊥
not-one x y n c = elim (Contains-cons_cases y [] x c) [ inl e ↦ n (sym e) | inr o ↦ Contains-none x o ]

not-two : {A : Type 0} (x y z : A) → (x ≡ y → ⊥) → (x ≡ z → ⊥) → Contains (y ∷ z ∷ []) x → ⊥
not-two x y z n m c = elim (Contains-cons_cases y (z ∷ []) x c) [ inl e ↦ n (sym e) | inr o ↦ not-one x z m o ]

IsSet-facts_of : (kind : AtomKind) → IsSet (facts_of kind)
IsSet-facts_of EqKind = (Contains-none Same, tt)
IsSet-facts_of RootKind = tt
IsSet-facts_of StepKind = (not-one Same Steps (λ e. cc), (Contains-none Steps, tt))
IsSet-facts_of BelowKind = (not-two Same Steps StepsBelow (λ e. cc) (λ e. cc), (not-one Steps StepsBelow (λ e. cc), (Contains-none StepsBelow, tt)))
IsSet-facts_of ParKind = (Contains-none StepsInParallel, tt)
IsSet-facts_of NfKind = (Contains-none IsNormal, tt)
IsSet-facts_of StarKind = (Contains-none Goes, tt)
IsSet-facts_of PlusKind = (not-one Goes GoesStrictly (λ e. cc), (Contains-none GoesStrictly, tt))

first-one : (p q : Pattern) → OfFirst p ≡ OfFirst q → p ≡ q
first-one p q h = cc

second-one : (p q : Pattern) → OfSecond p ≡ OfSecond q → p ≡ q
second-one p q h = cc

both-one : (k l : Fact) → OfBoth k ≡ OfBoth l → k ≡ l
both-one k l h = cc

first-second : (p q : Pattern) → OfFirst p ≡ OfSecond q → ⊥
first-second p q h = cc

first-both : (p : Pattern) (k : Fact) → OfFirst p ≡ OfBoth k → ⊥
first-both p k h = cc

second-both : (p : Pattern) (k : Fact) → OfSecond p ≡ OfBoth k → ⊥
second-both p k h = cc

NoneTwice-marks_of : (a : ListedAtom) → IsSet a.lefts → IsSet a.rights → NoneTwice (marks_of a)
NoneTwice-marks_of a l r =
    NoneTwice-IsSet (marks_of a)
    (IsSet-append (map OfFirst a.lefts) (map OfSecond a.rights ++ map OfBoth (facts_of a.atom.kind)) (IsSet-map OfFirst first-one a.lefts l)
    (IsSet-append (map OfSecond a.rights) (map OfBoth (facts_of a.atom.kind)) (IsSet-map OfSecond second-one a.rights r)
    (IsSet-map OfBoth both-one (facts_of a.atom.kind) (IsSet-facts_of a.atom.kind))
    (λ z c d. let v = Contains-map_from OfSecond a.rights z c in let w = Contains-map_from OfBoth (facts_of a.atom.kind) z d in second-both v.0 w.0 (v.2 ∙ sym w.2)))
    (λ z c d.
    let v = Contains-map_from OfFirst a.lefts z c in
    elim (Contains-append_cases (map OfSecond a.rights) (map OfBoth (facts_of a.atom.kind)) z d) [
      | inl s ↦ (let w = Contains-map_from OfSecond a.rights z s in first-second v.0 w.0 (v.2 ∙ sym w.2))
      | inr b ↦ (let w = Contains-map_from OfBoth (facts_of a.atom.kind) z b in first-both v.0 w.0 (v.2 ∙ sym w.2))
    ]))

-- where both lists of patterns are in order
pub NoneTwice-ordered : (a : ListedAtom)
    → ((i j : ℕ) → i < j → j < length a.lefts → PatternBefore (get_or a.lefts i Any) (get_or a.lefts j Any))
    → ((i j : ℕ) → i < j → j < length a.rights → PatternBefore (get_or a.rights i Any) (get_or a.rights j Any))
    → NoneTwice (marks_of a)
NoneTwice-ordered a left_ordered right_ordered = NoneTwice-marks_of a (IsSet-ordered a.lefts left_ordered) (IsSet-ordered a.rights right_ordered)

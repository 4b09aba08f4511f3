-- Law: the orders of ground terms, patterns, rules of a family and lists of as many rules are strict and total; so a family has one list of its rules.
use Rattle.std.specs.Prelude.{◌↔◌, Contains}
use Rattle.std.proofs.Common.{◌≡◌, ℕ, suc, ◌<◌, ◌≤◌, ◌⊎◌, List, [], ◌∷◌, length, refl, ap, ap₂, sym, ◌∙◌, arith, subst, inl, inr}
use Rattle.std.proofs.lemmas.Bool.{cases_lt}
use Rattle.fort_theory.specs.Trees.{Tree, Trees, Node, Nil, More}
use Rattle.fort_theory.specs.Signatures.{Signature}
use Rattle.fort_theory.specs.Patterns.{Pattern, Patterns, Any, At, NoPattern, MorePatterns}
use Rattle.fort_theory.specs.PatternOrder.{PatternBefore, PatternsBefore}
use Rattle.fort_theory.proofs.Members.{Contains-head, Contains-behind, Contains-cons_cases, Contains-none}
use Rattle.fort_theory.proofs.ClosedPatterns.{PatternBefore-irreflexive}
use Rattle.fort_answers.specs.FamilyRules.{TreeBefore, TreesBefore, FamilyRule, RuleBefore, Ascend, IsFamily, most_family_rules, IsTooLarge}
use Rattle.fort_answers.specs.FamilySystems.{CandidateBefore}

-- ---- an order by a first thing, and then by another

-- they are one, or one of them comes before the other
abbrev pub AreCompared : {A : Type 0} → (A → A → Type 0) → A → A → Type 0
AreCompared Before x y = (x ≡ y) ⊎ (Before x y ⊎ Before y x)

module _ {A : Type 0} (Before : A → A → Type 0) where
  then_irreflexive : {P : Type 0} (x : A) → (Before x x → ⊥) → (P → ⊥) → Before x x ⊎ ((x ≡ x) × P) → ⊥
  then_irreflexive x first rest (inl h) = first h
  then_irreflexive x first rest (inr h) = rest h.1

  then_transitive : {P Q R : Type 0} (x y z : A) → (Before x y → Before y z → Before x z) → (P → Q → R) → Before x y ⊎ ((x ≡ y) × P)
      → Before y z ⊎ ((y ≡ z) × Q) → Before x z ⊎ ((x ≡ z) × R)
  then_transitive x y z first rest (inl h) (inl k) = inl (first h k)
  then_transitive x y z first rest (inl h) (inr k) = inl (subst (Before x) k.0 h)
  then_transitive x y z first rest (inr h) (inl k) = inl (subst (λ w. Before w z) (sym h.0) k)
  then_transitive x y z first rest (inr h) (inr k) = inr (h.0 ∙ k.0, rest h.1 k.1)

  then_total : {E P Q S : Type 0} (x y : A) → (x ≡ y → E → S) → AreCompared Before x y → E ⊎ (P ⊎ Q)
      → S ⊎ ((Before x y ⊎ ((x ≡ y) × P)) ⊎ (Before y x ⊎ ((y ≡ x) × Q)))
  then_total x y both (inr (inl h)) rest = inr (inl (inl h))
  then_total x y both (inr (inr h)) rest = inr (inr (inl h))
  then_total x y both (inl e) (inl same) = inl (both e same)
  then_total x y both (inl e) (inr (inl h)) = inr (inl (inr (e, h)))
  then_total x y both (inl e) (inr (inr h)) = inr (inr (inr (sym e, h)))

below_transitive : (x y z : ℕ) → x < y → y < z → x < z
below_transitive x y z h k = omega arith

below_total : (x y : ℕ) → AreCompared (λ a b. a < b) x y
below_total x y =
    elim (cases_lt x y) [
      | inl l ↦ inr (inl l)
      | inr l ↦ elim (cases_lt y x) [ inl m ↦ inr (inr m) | inr m ↦ inl (omega arith) ]
    ]

-- ---- ground terms

mutual
  pub TreeBefore-irreflexive : (t : Tree) → TreeBefore t t → ⊥
  TreeBefore-irreflexive (Node f ts) h = then_irreflexive (λ a b. a < b) f (λ l. omega arith) (λ k. TreesBefore-irreflexive ts k) h

  TreesBefore-irreflexive : (ts : Trees) → TreesBefore ts ts → ⊥
  TreesBefore-irreflexive Nil h = h
  TreesBefore-irreflexive (More t ts) h = then_irreflexive TreeBefore t (λ k. TreeBefore-irreflexive t k) (λ k. TreesBefore-irreflexive ts k) h

mutual
  pub TreeBefore-transitive : (t u v : Tree) → TreeBefore t u → TreeBefore u v → TreeBefore t v
  TreeBefore-transitive (Node f ts) (Node g us) (Node h vs) a b =
      then_transitive (λ x y. x < y) f g h (below_transitive f g h) (λ c d. TreesBefore-transitive ts us vs c d) a b

  TreesBefore-transitive : (ts us vs : Trees) → TreesBefore ts us → TreesBefore us vs → TreesBefore ts vs
  TreesBefore-transitive Nil Nil vs a b = absurd a
  TreesBefore-transitive (More t ts) Nil vs a b = absurd a
  TreesBefore-transitive Nil (More u us) Nil a b = absurd b
  TreesBefore-transitive (More t ts) (More u us) Nil a b = absurd b
  TreesBefore-transitive Nil (More u us) (More v vs) a b = tt
  TreesBefore-transitive (More t ts) (More u us) (More v vs) a b =
      then_transitive TreeBefore t u v (λ c d. TreeBefore-transitive t u v c d) (λ c d. TreesBefore-transitive ts us vs c d) a b

pub TreeBefore-asymmetric : (t u : Tree) → TreeBefore t u → TreeBefore u t → ⊥
TreeBefore-asymmetric t u a b = TreeBefore-irreflexive t (TreeBefore-transitive t u t a b)

mutual
  pub TreeBefore-total : (t u : Tree) → AreCompared TreeBefore t u
  TreeBefore-total (Node f ts) (Node g us) = then_total (λ x y. x < y) f g (λ e k. ap₂ Node e k) (below_total f g) (TreesBefore-total ts us)

  TreesBefore-total : (ts us : Trees) → AreCompared TreesBefore ts us
  TreesBefore-total Nil Nil = inl refl
  TreesBefore-total Nil (More u us) = inr (inl tt)
  TreesBefore-total (More t ts) Nil = inr (inr tt)
  TreesBefore-total (More t ts) (More u us) = then_total TreeBefore t u (λ e k. ap₂ More e k) (TreeBefore-total t u) (TreesBefore-total ts us)

-- ---- patterns

mutual
  pub PatternBefore-transitive : (p q r : Pattern) → PatternBefore p q → PatternBefore q r → PatternBefore p r
  PatternBefore-transitive Any Any r a b = absurd a
  PatternBefore-transitive (At f ps) Any r a b = absurd a
  PatternBefore-transitive Any (At g qs) Any a b = absurd b
  PatternBefore-transitive (At f ps) (At g qs) Any a b = absurd b
  PatternBefore-transitive Any (At g qs) (At h rs) a b = tt
  PatternBefore-transitive (At f ps) (At g qs) (At h rs) a b =
      then_transitive (λ x y. x < y) f g h (below_transitive f g h) (λ c d. PatternsBefore-transitive ps qs rs c d) a b

  PatternsBefore-transitive : (ps qs rs : Patterns) → PatternsBefore ps qs → PatternsBefore qs rs → PatternsBefore ps rs
  PatternsBefore-transitive NoPattern NoPattern rs a b = absurd a
  PatternsBefore-transitive (MorePatterns p ps) NoPattern rs a b = absurd a
  PatternsBefore-transitive NoPattern (MorePatterns q qs) NoPattern a b = absurd b
  PatternsBefore-transitive (MorePatterns p ps) (MorePatterns q qs) NoPattern a b = absurd b
  PatternsBefore-transitive NoPattern (MorePatterns q qs) (MorePatterns r rs) a b = tt
  PatternsBefore-transitive (MorePatterns p ps) (MorePatterns q qs) (MorePatterns r rs) a b =
      then_transitive PatternBefore p q r (λ c d. PatternBefore-transitive p q r c d) (λ c d. PatternsBefore-transitive ps qs rs c d) a b

pub PatternBefore-asymmetric : (p q : Pattern) → PatternBefore p q → PatternBefore q p → ⊥
PatternBefore-asymmetric p q a b = PatternBefore-irreflexive p (PatternBefore-transitive p q p a b)

mutual
  pub PatternBefore-total : (p q : Pattern) → AreCompared PatternBefore p q
  PatternBefore-total Any Any = inl refl
  PatternBefore-total Any (At g qs) = inr (inl tt)
  PatternBefore-total (At f ps) Any = inr (inr tt)
  PatternBefore-total (At f ps) (At g qs) = then_total (λ x y. x < y) f g (λ e k. ap₂ At e k) (below_total f g) (PatternsBefore-total ps qs)

  PatternsBefore-total : (ps qs : Patterns) → AreCompared PatternsBefore ps qs
  PatternsBefore-total NoPattern NoPattern = inl refl
  PatternsBefore-total NoPattern (MorePatterns q qs) = inr (inl tt)
  PatternsBefore-total (MorePatterns p ps) NoPattern = inr (inr tt)
  PatternsBefore-total (MorePatterns p ps) (MorePatterns q qs) =
      then_total PatternBefore p q (λ e k. ap₂ MorePatterns e k) (PatternBefore-total p q) (PatternsBefore-total ps qs)

-- ---- rules of a family

pub RuleBefore-irreflexive : (r : FamilyRule) → RuleBefore r r → ⊥
RuleBefore-irreflexive r h = then_irreflexive PatternBefore r.0 (PatternBefore-irreflexive r.0) (TreeBefore-irreflexive r.1) h

pub RuleBefore-transitive : (r s t : FamilyRule) → RuleBefore r s → RuleBefore s t → RuleBefore r t
RuleBefore-transitive r s t h k =
    then_transitive PatternBefore r.0 s.0 t.0 (PatternBefore-transitive r.0 s.0 t.0) (TreeBefore-transitive r.1 s.1 t.1) h k

pub RuleBefore-asymmetric : (r s : FamilyRule) → RuleBefore r s → RuleBefore s r → ⊥
RuleBefore-asymmetric r s h k = RuleBefore-irreflexive r (RuleBefore-transitive r s r h k)

pub RuleBefore-total : (r s : FamilyRule) → AreCompared RuleBefore r s
RuleBefore-total r s =
    then_total PatternBefore r.0 s.0 (λ e k. ap₂ (λ p t. (p, t)) e k) (PatternBefore-total r.0 s.0) (TreeBefore-total r.1 s.1)

-- ---- lists of rules

pub CandidateBefore-irreflexive : (rs : List FamilyRule) → CandidateBefore rs rs → ⊥
CandidateBefore-irreflexive [] h = h
CandidateBefore-irreflexive (r ∷ rs) h = then_irreflexive RuleBefore r (RuleBefore-irreflexive r) (λ k. CandidateBefore-irreflexive rs k) h

pub CandidateBefore-transitive : (rs ss ts : List FamilyRule) → CandidateBefore rs ss → CandidateBefore ss ts → CandidateBefore rs ts
CandidateBefore-transitive [] [] ts h k = absurd h
CandidateBefore-transitive (r ∷ rs) [] ts h k = absurd h
CandidateBefore-transitive [] (s ∷ ss) [] h k = absurd k
CandidateBefore-transitive (r ∷ rs) (s ∷ ss) [] h k = absurd k
CandidateBefore-transitive [] (s ∷ ss) (t ∷ ts) h k = tt
CandidateBefore-transitive (r ∷ rs) (s ∷ ss) (t ∷ ts) h k =
    then_transitive RuleBefore r s t (RuleBefore-transitive r s t) (λ a b. CandidateBefore-transitive rs ss ts a b) h k

pub CandidateBefore-asymmetric : (rs ss : List FamilyRule) → CandidateBefore rs ss → CandidateBefore ss rs → ⊥
CandidateBefore-asymmetric rs ss h k = CandidateBefore-irreflexive rs (CandidateBefore-transitive rs ss rs h k)

pub CandidateBefore-total : (rs ss : List FamilyRule) → length rs ≡ length ss → AreCompared CandidateBefore rs ss
CandidateBefore-total [] [] e = inl refl
CandidateBefore-total [] (s ∷ ss) e = absurd (omega arith)
CandidateBefore-total (r ∷ rs) [] e = absurd (omega arith)
CandidateBefore-total (r ∷ rs) (s ∷ ss) e =
    then_total RuleBefore r s (λ h k. ap₂ (λ x xs. x ∷ xs) h k) (RuleBefore-total r s) (CandidateBefore-total rs ss (omega arith))

-- ---- one list of the rules of a family

rest_ascends : (r : FamilyRule) (rs : List FamilyRule) → Ascend (r ∷ rs) → Ascend rs
rest_ascends r rs h i j d l m = h (suc i) (suc j) d (omega arith) (omega arith)

first_before : (r : FamilyRule) (rs : List FamilyRule) (s : FamilyRule) → Ascend (r ∷ rs) → Contains rs s → RuleBefore r s
first_before r rs s h c = subst (RuleBefore r) c.2 (h 0 (suc c.0) s (omega arith) (omega (arith, c.1)))

-- what an ascending list has behind its first rule, another such list of the same rules has too
behind_first : (r : FamilyRule) (rs : List FamilyRule) (s : FamilyRule) (ss : List FamilyRule) → r ≡ s → Ascend (r ∷ rs)
    → ((x : FamilyRule) → Contains (r ∷ rs) x → Contains (s ∷ ss) x) → (x : FamilyRule) → Contains rs x → Contains ss x
behind_first r rs s ss heads h within x c =
    elim (Contains-cons_cases s ss x (within x (Contains-behind r rs x c))) [
      | inl e ↦ absurd (RuleBefore-irreflexive r (first_before r rs r h (subst (Contains rs) (sym (heads ∙ e)) c)))
      | inr k ↦ k
    ]

Ascend-one : (rs ss : List FamilyRule) → Ascend rs → Ascend ss → ((x : FamilyRule) → Contains rs x ↔ Contains ss x) → rs ≡ ss
Ascend-one [] [] a b same = refl
Ascend-one [] (s ∷ ss) a b same = absurd (Contains-none s ((same s).1 (Contains-head s ss)))
Ascend-one (r ∷ rs) [] a b same = absurd (Contains-none r ((same r).0 (Contains-head r rs)))
Ascend-one (r ∷ rs) (s ∷ ss) a b same =
    let heads = one_head (Contains-cons_cases s ss r ((same r).0 (Contains-head r rs))) (Contains-cons_cases r rs s ((same s).1 (Contains-head s ss))) in
    ap₂ (λ x xs. x ∷ xs) heads (Ascend-one rs ss (rest_ascends r rs a) (rest_ascends s ss b) (λ x. (
      behind_first r rs s ss heads a (λ y. (same y).0) x,
      behind_first s ss r rs (sym heads) b (λ y. (same y).1) x,
    )))
  where
    one_head : (s ≡ r) ⊎ Contains ss r → (r ≡ s) ⊎ Contains rs s → r ≡ s
    one_head (inl e) other = sym e
    one_head (inr h) (inl e) = e
    one_head (inr h) (inr k) = absurd (RuleBefore-asymmetric r s (first_before r rs s a k) (first_before s ss r b h))

pub IsFamily-one : (signature : Signature) (height : ℕ) (rs ss : List FamilyRule) → IsFamily signature height rs → IsFamily signature height ss → rs ≡ ss
IsFamily-one signature height rs ss a b =
    Ascend-one rs ss a.ascend b.ascend (λ x. ((λ c. (b.same x).1 ((a.same x).0 c)), (λ c. (a.same x).1 ((b.same x).0 c))))

pub IsFamily-not_too_large : (signature : Signature) (height : ℕ) (rules : List FamilyRule) → IsFamily signature height rules
    → length rules ≤ most_family_rules → IsTooLarge signature height → ⊥
IsFamily-not_too_large signature height rules is few large =
    let same = ap (λ (rs : List FamilyRule). length rs) (IsFamily-one signature height rules large.rules is large.are) in
    let many = large.many in omega arith

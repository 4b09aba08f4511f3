-- The rule's step at a node: each bit decides its mark, where the children's bits do.
use Rattle.std.specs.Prelude.{◌≡◌, ◌↔◌, ◌⊎◌, ℕ, max, List, length, Option, None, Some, Contains, Bool, true, false, Decides, ◌&&◌, ◌||◌, ◌==◌, not, refl}
use Rattle.std.proofs.Common.{sym, ap, ◌∙◌, arith, inl, inr, true≢false}
use Rattle.std.proofs.lemmas.Bool.Decides.{Decides-eqb, Decides-and, Decides-or, Decides-not}
use Rattle.fort_theory.specs.Trees.{Tree, Trees, Node, Nil, More, tree_count}
use Rattle.fort_theory.specs.Signatures.{Signature, IsGround, arity_of, HasConstant}
use Rattle.fort_theory.specs.Patterns.{Pattern, Patterns, Any, At, NoPattern, MorePatterns, IsInstance, AreInstances, FitsPattern, Pair}
use Rattle.fort_theory.specs.Rewriting.{Relation, Rewrites, RewritesBelow, RewritesInParallel, AllRewriteInParallel, End, Reduces, ReducesStrictly, IsNormalForm}
use Rattle.fort_theory.specs.PatternSteps.{PatternStep}
use Rattle.fort_theory.proofs.Lists.{some-injective}
use Rattle.fort_theory.proofs.StepByRoot.{Node-equal_iff, first-injective, rest-injective, OneRewrites, OneRewrites-More, OneRewrites-Nil, OneRewrites-to_Nil, Rewrites-by_root, RewritesBelow-by_root, RewritesInParallel-by_root, AllRewriteInParallel-More, AllRewriteInParallel-Nil_More, AllRewriteInParallel-More_Nil, AreNormalForms, IsNormalForm-by_root}
use Rattle.fort_reachability.specs.PatternReachability.{ReachesInstance}
use Rattle.fort_reachability.proofs.PatternInstances.{some-instance}
use Rattle.fort_tables.specs.OneColumn.{column_root, column_kid_count, column_kid}
use Rattle.fort_alike.specs.Alike.{Fact, Same, Steps, StepsBelow, StepsInParallel, IsNormal, Goes, GoesStrictly, FactHolds, Reaches, IsReachedFrom, FirstHas, SecondHas}
use Rattle.fort_alike.specs.Atoms.{OfOne, OfTwo}
use Rattle.fort_alike.specs.ListedAtoms.{Mark, OfFirst, OfSecond, OfBoth}
use Rattle.fort_alike.specs.AtomRules.{any_pair, inside, all_kids, one_kid, some_kid, same_roots, first_step, second_step, root_test, fact_step}
use Rattle.fort_alike.proofs.ClosedLists.{ArePatterns}
use Rattle.fort_alike.proofs.Bits.{Decides-false, Decides-and_then, Decides-iff, SomePair, Decides-any_pair}
use Rattle.fort_alike.proofs.Kids.{AllOf, InsideOf, GroundAt, OneRight, Decides-inside, AllRelated, OneRelated, SomeRelated, TwoRight, Decides-all_kids, Decides-one_kid, Decides-some_kid}
use Rattle.fort_alike.proofs.Reach.{Reaches-by_root, IsReachedFrom-by_root, ViaRoot-by_pairs, Reduces-by_root, ReducesStrictly-by_root}

-- equivalences
pub iff_then : {A B C : Type 0} → A ↔ B → B ↔ C → A ↔ C
iff_then v w = ((λ a. w.0 (v.0 a)), (λ c. v.1 (w.1 c)))

iff_back : {A B : Type 0} → A ↔ B → B ↔ A
iff_back v = (v.1, v.0)

pub iff_same : {A : Type 0} → A ↔ A
iff_same = ((λ a. a), (λ a. a))

iff_either : {A B C D : Type 0} → A ↔ B → C ↔ D → (A ⊎ C) ↔ (B ⊎ D)
iff_either v w = (
  (λ s. elim s [ inl a ↦ inl (v.0 a) | inr c ↦ inr (w.0 c) ]),
  (λ s. elim s [ inl b ↦ inl (v.1 b) | inr d ↦ inr (w.1 d) ]),
)

iff_both : {A B C D : Type 0} → A ↔ B → C ↔ D → (A × C) ↔ (B × D)
iff_both v w = ((λ s. (v.0 s.0, w.0 s.1)), (λ s. (v.1 s.0, w.1 s.1)))

-- instances
AllOf-IsInstance : (ps : Patterns) (ts : Trees) → AllOf IsInstance ps ts ↔ AreInstances ps ts
AllOf-IsInstance NoPattern Nil = iff_same
AllOf-IsInstance NoPattern (More t ts) = iff_same
AllOf-IsInstance (MorePatterns p ps) Nil = iff_same
AllOf-IsInstance (MorePatterns p ps) (More t ts) = iff_both iff_same (AllOf-IsInstance ps ts)

InsideOf-IsInstance : (p : Pattern) (t : Tree) → InsideOf IsInstance p t ↔ IsInstance p t
InsideOf-IsInstance Any t = iff_same
InsideOf-IsInstance (At g ps) (Node f ss) = iff_both iff_same (AllOf-IsInstance ps ss)

OfOne-same : (P Q : Tree → Type 0) (x : Option Tree) → ((t : Tree) → P t ↔ Q t) → OfOne P x ↔ OfOne Q x
OfOne-same P Q None h = iff_same
OfOne-same P Q (Some t) h = h t

-- children and lists of children
AllRelated-equal : (ss ts : Trees) → AllRelated ◌≡◌ ss ts ↔ (ss ≡ ts)
AllRelated-equal Nil Nil = ((λ h. refl), (λ h. tt))
AllRelated-equal Nil (More t ts) = ((λ h. absurd h), (λ h. absurd (let e : Nil ≡ More t ts = h in cc)))
AllRelated-equal (More s ss) Nil = ((λ h. absurd h), (λ h. absurd (let e : More s ss ≡ Nil = h in cc)))
AllRelated-equal (More s ss) (More t ts) =
    let rest = AllRelated-equal ss ts in
    ((λ h. let e = h.0 in let d = rest.0 h.1 in cc), (λ h. (first-injective h, rest.1 (rest-injective h))))

OneRelated-OneRewrites : (root : Relation) (ss ts : Trees) → OneRelated (Rewrites root) ◌≡◌ ss ts ↔ OneRewrites root ss ts
OneRelated-OneRewrites root Nil ts = ((λ h. absurd h), (λ h. OneRewrites-Nil root ts h))
OneRelated-OneRewrites root (More s ss) Nil = ((λ h. absurd h), (λ h. OneRewrites-to_Nil root (More s ss) h))
OneRelated-OneRewrites root (More s ss) (More t ts) =
    iff_then (iff_either (iff_both iff_same (AllRelated-equal ss ts)) (iff_both iff_same (OneRelated-OneRewrites root ss ts))) (iff_back (OneRewrites-More root s t ss ts))

AllRelated-AllRewriteInParallel : (root : Relation) (ss ts : Trees) → AllRelated (RewritesInParallel root) ss ts ↔ AllRewriteInParallel root ss ts
AllRelated-AllRewriteInParallel root Nil Nil = ((λ h. End), (λ h. tt))
AllRelated-AllRewriteInParallel root Nil (More t ts) = ((λ h. absurd h), (λ h. AllRewriteInParallel-Nil_More root t ts h))
AllRelated-AllRewriteInParallel root (More s ss) Nil = ((λ h. absurd h), (λ h. AllRewriteInParallel-More_Nil root s ss h))
AllRelated-AllRewriteInParallel root (More s ss) (More t ts) =
    iff_then (iff_both iff_same (AllRelated-AllRewriteInParallel root ss ts)) (iff_back (AllRewriteInParallel-More root s t ss ts))

AllRelated-AreNormalForms : (root : Relation) (ss : Trees) → AllRelated (λ s t. IsNormalForm root s) ss ss ↔ AreNormalForms root ss
AllRelated-AreNormalForms root Nil = iff_same
AllRelated-AreNormalForms root (More s ss) = iff_both iff_same (AllRelated-AreNormalForms root ss)

-- one root symbol, and a fact of the children
abbrev pub InsideTwo : (Trees → Trees → Type 0) → Relation
InsideTwo S (Node f ss) (Node g ts) = (f ≡ g) × S ss ts

-- as many children as the larger of the two has
abbrev pub IsExact : List (List ℕ) → Option Tree → Option Tree → Type 0
IsExact ws x y = length ws ≡ max (column_kid_count x) (column_kid_count y)

same_counts : (sig : Signature) (f g : ℕ) (ss ts : Trees) → IsGround sig (Node f ss) → IsGround sig (Node g ts) → f ≡ g → tree_count ss ≡ tree_count ts
same_counts sig f g ss ts a b e = some-injective (sym a.0 ∙ (ap (arity_of sig) e ∙ b.0))

module _ (sig : Signature) (ws : List (List ℕ)) where
  Decides-all_inside_two : (b : List ℕ → Bool) (R : Relation) (x y : Option Tree) → GroundAt sig x → GroundAt sig y → IsExact ws x y
      → TwoRight b R ws (column_kid x) (column_kid y)
      → Decides (same_roots (column_root x) (column_root y) && all_kids b ws) (OfTwo (InsideTwo (AllRelated R)) x y)
  Decides-all_inside_two b R None y gx gy l h = Decides-false (λ e. e)
  Decides-all_inside_two b R (Some (Node f ss)) None gx gy l h = Decides-false (λ e. e)
  Decides-all_inside_two b R (Some (Node f ss)) (Some (Node g ts)) gx gy l h =
      Decides-and_then (f == g) (all_kids b ws) (Decides-eqb f g)
      (λ e. let c = same_counts sig f g ss ts gx gy e in Decides-all_kids b R ws ss ts (omega arith) (omega arith) h)

  Decides-one_inside_two : (b c : List ℕ → Bool) (R E : Relation) (x y : Option Tree) → GroundAt sig x → GroundAt sig y → IsExact ws x y
      → TwoRight b R ws (column_kid x) (column_kid y) → TwoRight c E ws (column_kid x) (column_kid y)
      → Decides (same_roots (column_root x) (column_root y) && one_kid b c ws) (OfTwo (InsideTwo (OneRelated R E)) x y)
  Decides-one_inside_two b c R E None y gx gy l h k = Decides-false (λ e. e)
  Decides-one_inside_two b c R E (Some (Node f ss)) None gx gy l h k = Decides-false (λ e. e)
  Decides-one_inside_two b c R E (Some (Node f ss)) (Some (Node g ts)) gx gy l h k =
      Decides-and_then (f == g) (one_kid b c ws) (Decides-eqb f g)
      (λ e. let d = same_counts sig f g ss ts gx gy e in Decides-one_kid b c R E ws ss ts (omega arith) (omega arith) h k)

  Decides-all_and_some_inside_two : (b c : List ℕ → Bool) (R E : Relation) (x y : Option Tree) → GroundAt sig x → GroundAt sig y → IsExact ws x y
      → TwoRight b R ws (column_kid x) (column_kid y) → TwoRight c E ws (column_kid x) (column_kid y)
      → Decides (same_roots (column_root x) (column_root y) && (all_kids b ws && some_kid c ws)) (OfTwo (InsideTwo (λ ss ts. AllRelated R ss ts × SomeRelated E ss ts)) x y)
  Decides-all_and_some_inside_two b c R E None y gx gy l h k = Decides-false (λ e. e)
  Decides-all_and_some_inside_two b c R E (Some (Node f ss)) None gx gy l h k = Decides-false (λ e. e)
  Decides-all_and_some_inside_two b c R E (Some (Node f ss)) (Some (Node g ts)) gx gy l h k =
      Decides-and_then (f == g) (all_kids b ws && some_kid c ws) (Decides-eqb f g)
      (λ e. let d = same_counts sig f g ss ts gx gy e in
      Decides-and (all_kids b ws) (some_kid c ws) (Decides-all_kids b R ws ss ts (omega arith) (omega arith) h) (Decides-some_kid c E ws ss ts (omega arith) (omega arith) k))

-- what is asked of a node
pub record NodePremise (reaching : Bool) (sig : Signature) (pairs : List Pair) (lefts rights : List Pattern) (bit : Mark → List ℕ → Bool) (x y : Option Tree)
    (ws : List (List ℕ)) : Type 0 where
  pub ground_first : GroundAt sig x
  pub ground_second : GroundAt sig y
  pub exact : IsExact ws x y
  pub firsts : OneRight bit OfFirst lefts (FirstHas reaching (PatternStep sig pairs)) ws (column_kid x)
  pub seconds : OneRight bit OfSecond rights (SecondHas reaching (PatternStep sig pairs)) ws (column_kid y)

module _ (sig : Signature) (pairs : List Pair) (lefts rights : List Pattern) (closure : Pattern → Pattern → Bool) (bit : Mark → List ℕ → Bool)
    (lefts_are : ArePatterns sig lefts) (rights_are : ArePatterns sig rights) (left_sides : (r : Pair) → Contains pairs r → Contains lefts r.0) where
  abbrev pub Closed : Bool → Type 0
  Closed reaching = reaching ≡ true → (p q : Pattern) → Contains rights p → Contains lefts q → Decides (closure p q) (ReachesInstance sig pairs p q)

  abbrev pub SidesListed : Type 0
  SidesListed = (r : Pair) → Contains pairs r → Contains rights r.1

  Decides-inside_first : (P : Pattern → Tree → Type 0) (x y : Option Tree) (ws : List (List ℕ)) → GroundAt sig x → IsExact ws x y
      → OneRight bit OfFirst lefts P ws (column_kid x)
      → (q : Pattern) → Contains lefts q → Decides (inside bit OfFirst (column_root x) ws q) (OfOne (InsideOf P q) x)
  Decides-inside_first P x y ws g l h q m = Decides-inside bit OfFirst lefts P sig lefts_are x ws g (omega arith) h q m

  Decides-inside_second : (P : Pattern → Tree → Type 0) (x y : Option Tree) (ws : List (List ℕ)) → GroundAt sig y → IsExact ws x y
      → OneRight bit OfSecond rights P ws (column_kid y)
      → (p : Pattern) → Contains rights p → Decides (inside bit OfSecond (column_root y) ws p) (OfOne (InsideOf P p) y)
  Decides-inside_second P x y ws g l h p m = Decides-inside bit OfSecond rights P sig rights_are y ws g (omega arith) h p m

  OfOne-Reaches : (x : Option Tree) (q : Pattern) → GroundAt sig x
      → (OfOne (InsideOf (Reaches (PatternStep sig pairs)) q) x
      ⊎ SomePair (λ r. OfOne (InsideOf (Reaches (PatternStep sig pairs)) r.0) x × ReachesInstance sig pairs r.1 q) pairs) ↔ OfOne (Reaches (PatternStep sig pairs) q) x
  OfOne-Reaches None q g = ((λ s. elim s [ inl a ↦ a | inr b ↦ b.2.0 ]), (λ e. absurd e))
  OfOne-Reaches (Some (Node f ss)) q g = Reaches-by_root sig pairs f ss q g

  OfOne-IsReachedFrom : (y : Option Tree) (p : Pattern) → GroundAt sig y
      → (OfOne (InsideOf (IsReachedFrom (PatternStep sig pairs)) p) y
      ⊎ SomePair (λ r. ReachesInstance sig pairs p r.0 × OfOne (InsideOf (IsReachedFrom (PatternStep sig pairs)) r.1) y) pairs)
      ↔ OfOne (IsReachedFrom (PatternStep sig pairs) p) y
  OfOne-IsReachedFrom None p g = ((λ s. elim s [ inl a ↦ a | inr b ↦ b.2.1 ]), (λ e. absurd e))
  OfOne-IsReachedFrom (Some (Node f ss)) p g = IsReachedFrom-by_root sig pairs f ss p g

  pub Decides-first_step : (reaching : Bool) (x y : Option Tree) (ws : List (List ℕ)) → (reaching ≡ true → SidesListed) → Closed reaching
      → NodePremise reaching sig pairs lefts rights bit x y ws → (q : Pattern) → Contains lefts q
      → Decides (first_step reaching bit pairs closure (column_root x) ws q) (OfOne (FirstHas reaching (PatternStep sig pairs) q) x)
  Decides-first_step false x y ws sides closed h q m =
      Decides-iff (inside bit OfFirst (column_root x) ws q) (OfOne-same (InsideOf IsInstance q) (IsInstance q) x (InsideOf-IsInstance q))
      (Decides-inside_first IsInstance x y ws h.ground_first h.exact h.firsts q m)
  Decides-first_step true x y ws sides closed h q m =
      let each : (r : Pair) → Contains pairs r
      → Decides (inside bit OfFirst (column_root x) ws r.0 && closure r.1 q) (OfOne (InsideOf (Reaches (PatternStep sig pairs)) r.0) x × ReachesInstance sig pairs r.1 q) =
      λ r c. Decides-and (inside bit OfFirst (column_root x) ws r.0) (closure r.1 q)
      (Decides-inside_first (Reaches (PatternStep sig pairs)) x y ws h.ground_first h.exact h.firsts r.0 (left_sides r c)) (closed refl r.1 q (sides refl r c) m) in
      Decides-iff (inside bit OfFirst (column_root x) ws q || any_pair (λ r. inside bit OfFirst (column_root x) ws r.0 && closure r.1 q) pairs)
      (OfOne-Reaches x q h.ground_first)
      (Decides-or (inside bit OfFirst (column_root x) ws q) (any_pair (λ r. inside bit OfFirst (column_root x) ws r.0 && closure r.1 q) pairs)
      (Decides-inside_first (Reaches (PatternStep sig pairs)) x y ws h.ground_first h.exact h.firsts q m)
      (Decides-any_pair (λ r. inside bit OfFirst (column_root x) ws r.0 && closure r.1 q)
      (λ r. OfOne (InsideOf (Reaches (PatternStep sig pairs)) r.0) x × ReachesInstance sig pairs r.1 q) pairs each))

  pub Decides-second_step : (reaching : Bool) (x y : Option Tree) (ws : List (List ℕ)) → (reaching ≡ true → SidesListed) → Closed reaching
      → NodePremise reaching sig pairs lefts rights bit x y ws → (p : Pattern) → Contains rights p
      → Decides (second_step reaching bit pairs closure (column_root y) ws p) (OfOne (SecondHas reaching (PatternStep sig pairs) p) y)
  Decides-second_step false x y ws sides closed h p m =
      Decides-iff (inside bit OfSecond (column_root y) ws p) (OfOne-same (InsideOf IsInstance p) (IsInstance p) y (InsideOf-IsInstance p))
      (Decides-inside_second IsInstance x y ws h.ground_second h.exact h.seconds p m)
  Decides-second_step true x y ws sides closed h p m =
      let each : (r : Pair) → Contains pairs r
      → Decides (closure p r.0 && inside bit OfSecond (column_root y) ws r.1)
      (ReachesInstance sig pairs p r.0 × OfOne (InsideOf (IsReachedFrom (PatternStep sig pairs)) r.1) y) =
      λ r c. Decides-and (closure p r.0) (inside bit OfSecond (column_root y) ws r.1) (closed refl p r.0 m (left_sides r c))
      (Decides-inside_second (IsReachedFrom (PatternStep sig pairs)) x y ws h.ground_second h.exact h.seconds r.1 (sides refl r c)) in
      Decides-iff (inside bit OfSecond (column_root y) ws p || any_pair (λ r. closure p r.0 && inside bit OfSecond (column_root y) ws r.1) pairs)
      (OfOne-IsReachedFrom y p h.ground_second)
      (Decides-or (inside bit OfSecond (column_root y) ws p) (any_pair (λ r. closure p r.0 && inside bit OfSecond (column_root y) ws r.1) pairs)
      (Decides-inside_second (IsReachedFrom (PatternStep sig pairs)) x y ws h.ground_second h.exact h.seconds p m)
      (Decides-any_pair (λ r. closure p r.0 && inside bit OfSecond (column_root y) ws r.1)
      (λ r. ReachesInstance sig pairs p r.0 × OfOne (InsideOf (IsReachedFrom (PatternStep sig pairs)) r.1) y) pairs each))

  -- some rule has its left side at the first and its right side at the second
  abbrev pub RootTest : Bool → Option Tree → Option Tree → Type 0
  RootTest reaching x y = SomePair (λ r. OfOne (FirstHas reaching (PatternStep sig pairs) r.0) x × OfOne (SecondHas reaching (PatternStep sig pairs) r.1) y) pairs

  Decides-root_test : (reaching : Bool) (x y : Option Tree) (ws : List (List ℕ)) → SidesListed → Closed reaching → NodePremise reaching sig pairs lefts rights bit x y ws
      → Decides (root_test reaching bit pairs closure (column_root x) (column_root y) ws) (RootTest reaching x y)
  Decides-root_test reaching x y ws sides closed h =
      Decides-any_pair (λ r. first_step reaching bit pairs closure (column_root x) ws r.0 && second_step reaching bit pairs closure (column_root y) ws r.1)
      (λ r. OfOne (FirstHas reaching (PatternStep sig pairs) r.0) x × OfOne (SecondHas reaching (PatternStep sig pairs) r.1) y) pairs
      (λ r c. Decides-and (first_step reaching bit pairs closure (column_root x) ws r.0) (second_step reaching bit pairs closure (column_root y) ws r.1)
      (Decides-first_step reaching x y ws (λ e. sides) closed h r.0 (left_sides r c)) (Decides-second_step reaching x y ws (λ e. sides) closed h r.1 (sides r c)))

  OfTwo-root_or_inside : (reaching : Bool) (S : Trees → Trees → Type 0) (R : Relation) (x y : Option Tree) → GroundAt sig x → GroundAt sig y
      → ((f g : ℕ) (ss ts : Trees) → IsGround sig (Node f ss) → IsGround sig (Node g ts)
      → (RootTest reaching (Some (Node f ss)) (Some (Node g ts)) ⊎ ((f ≡ g) × S ss ts))
      ↔ R (Node f ss) (Node g ts))
      → (RootTest reaching x y ⊎ OfTwo (InsideTwo S) x y) ↔ OfTwo R x y
  OfTwo-root_or_inside reaching S R None y gx gy h = ((λ s. elim s [ inl a ↦ a.2.0 | inr b ↦ b ]), (λ e. absurd e))
  OfTwo-root_or_inside reaching S R (Some (Node f ss)) None gx gy h = ((λ s. elim s [ inl a ↦ a.2.1 | inr b ↦ b ]), (λ e. absurd e))
  OfTwo-root_or_inside reaching S R (Some (Node f ss)) (Some (Node g ts)) gx gy h = h f g ss ts gx gy

  OfTwo-inside : (S : Trees → Trees → Type 0) (R : Relation) (x y : Option Tree)
      → ((f g : ℕ) (ss ts : Trees) → ((f ≡ g) × S ss ts) ↔ R (Node f ss) (Node g ts)) → OfTwo (InsideTwo S) x y ↔ OfTwo R x y
  OfTwo-inside S R None y h = iff_same
  OfTwo-inside S R (Some (Node f ss)) None h = iff_same
  OfTwo-inside S R (Some (Node f ss)) (Some (Node g ts)) h = h f g ss ts

  SomePair-PatternStep : (s t : Tree) → IsGround sig s → IsGround sig t → SomePair (λ r. IsInstance r.0 s × IsInstance r.1 t) pairs ↔ PatternStep sig pairs s t
  SomePair-PatternStep s t g k = (
    (λ w. record { pair = w.0; among = w.1; left = w.2.0; right = w.2.1; left_grounded = g; right_grounded = k }),
    (λ h. (h.pair, h.among, (h.left, h.right))),
  )

  module _ (x y : Option Tree) (ws : List (List ℕ)) where
    abbrev pub KidFact : Fact → Type 0
    KidFact k = TwoRight (bit (OfBoth k)) (FactHolds (PatternStep sig pairs) k) ws (column_kid x) (column_kid y)

    abbrev pub Told : Bool → Fact → Type 0
    Told reaching k = Decides (fact_step reaching bit pairs closure (column_root x) (column_root y) ws k) (OfTwo (FactHolds (PatternStep sig pairs) k) x y)

    pub Decides-Same : (reaching : Bool) → GroundAt sig x → GroundAt sig y → IsExact ws x y → KidFact Same → Told reaching Same
    Decides-Same reaching gx gy l h =
        Decides-iff (same_roots (column_root x) (column_root y) && all_kids (bit (OfBoth Same)) ws)
        (OfTwo-inside (AllRelated ◌≡◌) ◌≡◌ x y (λ f g ss ts. iff_then (iff_both iff_same (AllRelated-equal ss ts)) (iff_back (Node-equal_iff f g ss ts))))
        (Decides-all_inside_two sig ws (bit (OfBoth Same)) ◌≡◌ x y gx gy l h)

    pub Decides-Steps : SidesListed → NodePremise false sig pairs lefts rights bit x y ws → KidFact Same → KidFact Steps → Told false Steps
    Decides-Steps sides p h k =
        Decides-iff (root_test false bit pairs closure (column_root x) (column_root y) ws ||
        (same_roots (column_root x) (column_root y) && one_kid (bit (OfBoth Steps)) (bit (OfBoth Same)) ws))
        (OfTwo-root_or_inside false (OneRelated (Rewrites (PatternStep sig pairs)) ◌≡◌) (Rewrites (PatternStep sig pairs)) x y p.ground_first p.ground_second
        (λ f g ss ts a b. iff_then
        (iff_either (SomePair-PatternStep (Node f ss) (Node g ts) a b) (iff_both iff_same (OneRelated-OneRewrites (PatternStep sig pairs) ss ts)))
        (iff_back (Rewrites-by_root (PatternStep sig pairs) f g ss ts))))
        (Decides-or (root_test false bit pairs closure (column_root x) (column_root y) ws)
        (same_roots (column_root x) (column_root y) && one_kid (bit (OfBoth Steps)) (bit (OfBoth Same)) ws)
        (Decides-root_test false x y ws sides (λ e. absurd (true≢false (sym e))) p)
        (Decides-one_inside_two sig ws (bit (OfBoth Steps)) (bit (OfBoth Same)) (Rewrites (PatternStep sig pairs)) ◌≡◌ x y p.ground_first p.ground_second p.exact k h))

    pub Decides-StepsBelow : (reaching : Bool) → GroundAt sig x → GroundAt sig y → IsExact ws x y → KidFact Same → KidFact Steps → Told reaching StepsBelow
    Decides-StepsBelow reaching gx gy l h k =
        Decides-iff (same_roots (column_root x) (column_root y) && one_kid (bit (OfBoth Steps)) (bit (OfBoth Same)) ws)
        (OfTwo-inside (OneRelated (Rewrites (PatternStep sig pairs)) ◌≡◌) (RewritesBelow (PatternStep sig pairs)) x y
        (λ f g ss ts. iff_then (iff_both iff_same (OneRelated-OneRewrites (PatternStep sig pairs) ss ts)) (iff_back (RewritesBelow-by_root (PatternStep sig pairs) f g ss ts))))
        (Decides-one_inside_two sig ws (bit (OfBoth Steps)) (bit (OfBoth Same)) (Rewrites (PatternStep sig pairs)) ◌≡◌ x y gx gy l k h)

    pub Decides-StepsInParallel : SidesListed → NodePremise false sig pairs lefts rights bit x y ws → KidFact StepsInParallel → Told false StepsInParallel
    Decides-StepsInParallel sides p h =
        Decides-iff (root_test false bit pairs closure (column_root x) (column_root y) ws ||
        (same_roots (column_root x) (column_root y) && all_kids (bit (OfBoth StepsInParallel)) ws))
        (OfTwo-root_or_inside false (AllRelated (RewritesInParallel (PatternStep sig pairs))) (RewritesInParallel (PatternStep sig pairs)) x y p.ground_first p.ground_second
        (λ f g ss ts a b. iff_then
        (iff_either (SomePair-PatternStep (Node f ss) (Node g ts) a b) (iff_both iff_same (AllRelated-AllRewriteInParallel (PatternStep sig pairs) ss ts)))
        (iff_back (RewritesInParallel-by_root (PatternStep sig pairs) f g ss ts))))
        (Decides-or (root_test false bit pairs closure (column_root x) (column_root y) ws)
        (same_roots (column_root x) (column_root y) && all_kids (bit (OfBoth StepsInParallel)) ws)
        (Decides-root_test false x y ws sides (λ e. absurd (true≢false (sym e))) p)
        (Decides-all_inside_two sig ws (bit (OfBoth StepsInParallel)) (RewritesInParallel (PatternStep sig pairs)) x y p.ground_first p.ground_second p.exact h))

    pub Decides-Goes : SidesListed → Closed true → NodePremise true sig pairs lefts rights bit x y ws → KidFact Goes → Told true Goes
    Decides-Goes sides closed p h =
        Decides-iff (root_test true bit pairs closure (column_root x) (column_root y) ws || (same_roots (column_root x) (column_root y) && all_kids (bit (OfBoth Goes)) ws))
        (OfTwo-root_or_inside true (AllRelated (Reduces (PatternStep sig pairs))) (Reduces (PatternStep sig pairs)) x y p.ground_first p.ground_second
        (λ f g ss ts a b. iff_then (iff_either (ViaRoot-by_pairs sig pairs (Node f ss) (Node g ts) a b) iff_same) (Reduces-by_root (PatternStep sig pairs) f g ss ts)))
        (Decides-or (root_test true bit pairs closure (column_root x) (column_root y) ws) (same_roots (column_root x) (column_root y) && all_kids (bit (OfBoth Goes)) ws)
        (Decides-root_test true x y ws sides closed p)
        (Decides-all_inside_two sig ws (bit (OfBoth Goes)) (Reduces (PatternStep sig pairs)) x y p.ground_first p.ground_second p.exact h))

    pub Decides-GoesStrictly : SidesListed → Closed true → NodePremise true sig pairs lefts rights bit x y ws
        → KidFact Goes → KidFact GoesStrictly → Told true GoesStrictly
    Decides-GoesStrictly sides closed p h k =
        Decides-iff (root_test true bit pairs closure (column_root x) (column_root y) ws ||
        (same_roots (column_root x) (column_root y) && (all_kids (bit (OfBoth Goes)) ws && some_kid (bit (OfBoth GoesStrictly)) ws)))
        (OfTwo-root_or_inside true (λ ss ts. AllRelated (Reduces (PatternStep sig pairs)) ss ts × SomeRelated (ReducesStrictly (PatternStep sig pairs)) ss ts)
        (ReducesStrictly (PatternStep sig pairs)) x y p.ground_first p.ground_second
        (λ f g ss ts a b. iff_then (iff_either (ViaRoot-by_pairs sig pairs (Node f ss) (Node g ts) a b) iff_same) (ReducesStrictly-by_root (PatternStep sig pairs) f g ss ts)))
        (Decides-or (root_test true bit pairs closure (column_root x) (column_root y) ws)
        (same_roots (column_root x) (column_root y) && (all_kids (bit (OfBoth Goes)) ws && some_kid (bit (OfBoth GoesStrictly)) ws))
        (Decides-root_test true x y ws sides closed p)
        (Decides-all_and_some_inside_two sig ws (bit (OfBoth Goes)) (bit (OfBoth GoesStrictly)) (Reduces (PatternStep sig pairs)) (ReducesStrictly (PatternStep sig pairs))
        x y p.ground_first p.ground_second p.exact h k))

  -- normal forms: the one term is both arguments
  SomePair-none : HasConstant sig → ((r : Pair) → Contains pairs r → FitsPattern sig r.1) → (s : Tree) → IsGround sig s
      → (SomePair (λ r. IsInstance r.0 s) pairs → ⊥) ↔ ((t : Tree) → PatternStep sig pairs s t → ⊥)
  SomePair-none constant fit s g = (
    (λ none t h. none (h.pair, h.among, h.left)),
    (λ none w. let i = some-instance sig constant w.0.1 (fit w.0 w.1) in
        none i.0 (record { pair = w.0; among = w.1; left = w.2; right = i.2; left_grounded = g; right_grounded = i.1 })),
  )

  pub Decides-IsNormal : HasConstant sig → ((r : Pair) → Contains pairs r → FitsPattern sig r.1) → (x : Option Tree) (ws : List (List ℕ))
      → NodePremise false sig pairs lefts rights bit x x ws
      → TwoRight (bit (OfBoth IsNormal)) (FactHolds (PatternStep sig pairs) IsNormal) ws (column_kid x) (column_kid x)
      → Decides (fact_step false bit pairs closure (column_root x) (column_root x) ws IsNormal) (OfTwo (FactHolds (PatternStep sig pairs) IsNormal) x x)
  Decides-IsNormal constant fit None ws p h = Decides-false (λ e. e)
  Decides-IsNormal constant fit (Some (Node f ss)) ws p h =
      let l : length ws ≡ max (tree_count ss) (tree_count ss) = p.exact in
      let each : (r : Pair) → Contains pairs r → Decides (inside bit OfFirst (Some f) ws r.0) (IsInstance r.0 (Node f ss)) =
      λ r c. Decides-first_step false (Some (Node f ss)) (Some (Node f ss)) ws (λ e. absurd (true≢false (sym e)))
      (λ e. absurd (true≢false (sym e))) p r.0 (left_sides r c) in
      Decides-iff (not (any_pair (λ r. inside bit OfFirst (Some f) ws r.0) pairs) && all_kids (bit (OfBoth IsNormal)) ws)
      (iff_then (iff_both (SomePair-none constant fit (Node f ss) p.ground_first) (AllRelated-AreNormalForms (PatternStep sig pairs) ss))
      (iff_back (IsNormalForm-by_root (PatternStep sig pairs) f ss)))
      (Decides-and (not (any_pair (λ r. inside bit OfFirst (Some f) ws r.0) pairs)) (all_kids (bit (OfBoth IsNormal)) ws)
      (Decides-not (any_pair (λ r. inside bit OfFirst (Some f) ws r.0) pairs)
      (Decides-any_pair (λ r. inside bit OfFirst (Some f) ws r.0) (λ r. IsInstance r.0 (Node f ss)) pairs each))
      (Decides-all_kids (bit (OfBoth IsNormal)) (FactHolds (PatternStep sig pairs) IsNormal) ws ss ss (omega arith) (omega arith) h))

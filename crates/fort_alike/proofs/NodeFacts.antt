-- The rule's step at a node: each state and each fact is decided, where those of the children are.
use Rattle.std.specs.Prelude.{◌≡◌, ◌↔◌, ◌⊎◌, ℕ, ◌<◌, ◌≤◌, List, [], ◌∷◌, map, length, Option, None, Some, get_or, Contains, Bool, Decides, ◌&&◌, ◌||◌, ◌==◌, refl}
use Rattle.std.proofs.Common.{sym, ap, subst, ◌∙◌, arith, inl, inr}
use Rattle.std.proofs.lemmas.List.{length-map, get_or-map}
use Rattle.std.proofs.lemmas.List.Elements.{Contains-append_cases, Contains-append_left}
use Rattle.std.proofs.lemmas.Bool.Decides.{Decides-eqb, Decides-like, Decides-and, Decides-or}
use Rattle.fort_theory.specs.Trees.{Tree, Trees, Node, Nil, More, tree_count}
use Rattle.fort_theory.specs.Signatures.{Signature, IsGround, arity_of}
use Rattle.fort_theory.specs.Rewriting.{Relation}
use Rattle.fort_theory.proofs.Lists.{some-injective}
use Rattle.fort_theory.proofs.Members.{Contains-head, Contains-behind, Contains-none, Contains-cons_cases}
use Rattle.fort_theory.proofs.StepByRoot.{Node-equal_iff, first-injective, rest-injective}
use Rattle.fort_tables.specs.OneColumn.{column_root, column_kid_count, column_kid}
use Rattle.fort_alike.specs.Atoms.{OfOne, OfTwo}
use Rattle.fort_alike.specs.AtomRules.{all_kids, some_kid, same_roots}
use Rattle.fort_alike.proofs.Bits.{Decides-false, Decides-and_then, Decides-iff}
use Rattle.fort_alike.proofs.Kids.{GroundAt, AllRelated, TwoRight, Decides-all_kids, Decides-one_kid, Decides-some_kid}
use Rattle.fort_alike.proofs.NodeMarks.{iff_same, iff_then, InsideTwo, IsExact}
use Rattle.fort_theory.specs.Contexts.{HoleNumber, OneHole, SomeHoles, AnyHoles, HolePlace, AtTheRoot, BelowTheRoot, AnyPlace, HoldsInContext}
use Rattle.fort_theory.proofs.ContextLaws.{More-equal}
use Rattle.fort_alike.specs.ExpressionAlike.{PairFact, Same, Anywhere, Below, PairFactHolds, facts_anywhere, facts_at_root, facts_for}
use Rattle.fort_alike.specs.ExpressionStates.{Truths, NodeStates}
use Rattle.fort_alike.specs.ConditionStates.{no_truths, AreRight, StepsRight}
use Rattle.fort_alike.specs.ExpressionRules.{states_at, some_pair, kids_test, fact_step}
use Rattle.fort_alike.proofs.KidContexts.{KidsHold, anywhere-by_root, below-by_root}

iff_back : {A B : Type 0} → A ↔ B → B ↔ A
iff_back v = (v.1, v.0)

-- states of a component
module _ (signature : Signature) (Holds : ℕ → Tree → Type 0) (states : NodeStates) (steps : StepsRight signature Holds states) (bits : List ℕ → Truths) where
  abbrev pub KidsRight : Option Tree → List (List ℕ) → Type 0
  KidsRight x ws = (j : ℕ) → j < length ws → (k : ℕ) → k < states.count → Decides (bits (get_or ws j []) k) (OfOne (Holds k) (column_kid x j))

  rows-right : (f : ℕ) (ss : Trees) (ws : List (List ℕ)) → KidsRight (Some (Node f ss)) ws → AreRight Holds states.count ss (map bits ws)
  rows-right f ss ws h j l k low =
      let inside : j < length ws = omega (arith, l, length-map ws bits) in
      subst (λ (row : Truths). Decides (row k) (OfOne (Holds k) (column_kid (Some (Node f ss)) j))) (sym (get_or-map bits ws j [] no_truths inside)) (h j inside k low)

  pub Decides-states_at : (x : Option Tree) (ws : List (List ℕ)) → GroundAt signature x → column_kid_count x ≤ length ws → KidsRight x ws
      → (k : ℕ) → k < states.count → Decides (states_at states (column_root x) (map bits ws) k) (OfOne (Holds k) x)
  Decides-states_at None ws g l h k low = Decides-false (λ e. e)
  Decides-states_at (Some (Node f ss)) ws g l h k low = steps f ss g (map bits ws) (omega (arith, l, length-map ws bits)) (rows-right f ss ws h) k low

-- some pair of states
abbrev pub SomePairOf : (ℕ × ℕ → Type 0) → List (ℕ × ℕ) → Type 0
SomePairOf P ps = (p : ℕ × ℕ) × Contains ps p × P p

SomePairOf-cases : (P : ℕ × ℕ → Type 0) (p : ℕ × ℕ) (ps : List (ℕ × ℕ)) (q : ℕ × ℕ) → Contains (p ∷ ps) q → P q → P p ⊎ SomePairOf P ps
SomePairOf-cases P p ps q c h = elim (Contains-cons_cases p ps q c) [ inl e ↦ inl (subst P (sym e) h) | inr k ↦ inr (q, k, h) ]

pub Decides-some_pair : (left right : Truths) (P : ℕ × ℕ → Type 0) (ps : List (ℕ × ℕ)) → ((p : ℕ × ℕ) → Contains ps p → Decides (left p.0 && right p.1) (P p))
    → Decides (some_pair left right ps) (SomePairOf P ps)
Decides-some_pair left right P [] h = Decides-false (λ w. Contains-none w.0 w.1)
Decides-some_pair left right P (p ∷ ps) h =
    Decides-like ((left p.0 && right p.1) || some_pair left right ps)
    (λ w. elim w [ inl a ↦ (p, Contains-head p ps, a) | inr b ↦ (b.0, Contains-behind p ps b.0 b.1, b.2) ])
    (λ w. SomePairOf-cases P p ps w.0 w.1 w.2)
    (Decides-or (left p.0 && right p.1) (some_pair left right ps) (h p (Contains-head p ps)) (Decides-some_pair left right P ps (λ q c. h q (Contains-behind p ps q c))))

OfTwo-pairs : (signature : Signature) (r : Relation) (L R : ℕ → Tree → Type 0) (pairs : List (ℕ × ℕ))
    → ((s t : Tree) → IsGround signature s → IsGround signature t → r s t ↔ ((p : ℕ × ℕ) × Contains pairs p × L p.0 s × R p.1 t))
    → (x y : Option Tree) → GroundAt signature x → GroundAt signature y → SomePairOf (λ p. OfOne (L p.0) x × OfOne (R p.1) y) pairs ↔ OfTwo r x y
OfTwo-pairs signature r L R pairs relates None y gx gy = ((λ w. w.2.0), (λ e. absurd e))
OfTwo-pairs signature r L R pairs relates (Some s) None gx gy = ((λ w. w.2.1), (λ e. absurd e))
OfTwo-pairs signature r L R pairs relates (Some s) (Some t) gx gy = (
  (λ w. (relates s t gx gy).1 (w.0, w.1, w.2.0, w.2.1)),
  (λ h. let w = (relates s t gx gy).0 h in (w.0, w.1, (w.2, w.3))),
)

module _ (signature : Signature) (r : Relation) (L R : ℕ → Tree → Type 0) (pairs : List (ℕ × ℕ))
    (relates : (s t : Tree) → IsGround signature s → IsGround signature t → r s t ↔ ((p : ℕ × ℕ) × Contains pairs p × L p.0 s × R p.1 t)) (left right : Truths)
    (x y : Option Tree) where
  -- the pairs tell the relation at the root
  pub Decides-root : GroundAt signature x → GroundAt signature y → ((p : ℕ × ℕ) → Contains pairs p → Decides (left p.0) (OfOne (L p.0) x))
      → ((p : ℕ × ℕ) → Contains pairs p → Decides (right p.1) (OfOne (R p.1) y)) → Decides (some_pair left right pairs) (OfTwo r x y)
  Decides-root gx gy ls rs =
      Decides-iff (some_pair left right pairs) (OfTwo-pairs signature r L R pairs relates x y gx gy)
      (Decides-some_pair left right (λ p. OfOne (L p.0) x × OfOne (R p.1) y) pairs (λ p c. Decides-and (left p.0) (right p.1) (ls p c) (rs p c)))

-- one root symbol, and the children
AllRelated-equal : (ss ts : Trees) → AllRelated ◌≡◌ ss ts ↔ (ss ≡ ts)
AllRelated-equal Nil Nil = ((λ h. refl), (λ h. tt))
AllRelated-equal Nil (More t ts) = ((λ h. absurd h), (λ h. absurd (let e : Nil ≡ More t ts = h in cc)))
AllRelated-equal (More s ss) Nil = ((λ h. absurd h), (λ h. absurd (let e : More s ss ≡ Nil = h in cc)))
AllRelated-equal (More s ss) (More t ts) =
    let rest = AllRelated-equal ss ts in
    ((λ h. More-equal h.0 (rest.0 h.1)), (λ h. (first-injective h, rest.1 (rest-injective h))))

same_counts : (signature : Signature) (f g : ℕ) (ss ts : Trees) → IsGround signature (Node f ss) → IsGround signature (Node g ts) → f ≡ g → tree_count ss ≡ tree_count ts
same_counts signature f g ss ts a b e = some-injective (sym a.0 ∙ (ap (arity_of signature) e ∙ b.0))

OfTwo-same : (P Q : Relation) (x y : Option Tree) → ((f g : ℕ) (ss ts : Trees) → P (Node f ss) (Node g ts) ↔ Q (Node f ss) (Node g ts)) → OfTwo P x y ↔ OfTwo Q x y
OfTwo-same P Q None y h = iff_same
OfTwo-same P Q (Some (Node f ss)) None h = iff_same
OfTwo-same P Q (Some (Node f ss)) (Some (Node g ts)) h = h f g ss ts

abbrev EitherOfTwo : Relation → Relation → Relation
EitherOfTwo P Q s t = P s t ⊎ Q s t

OfTwo-either : (P Q : Relation) (x y : Option Tree) → (OfTwo P x y ⊎ OfTwo Q x y) ↔ OfTwo (EitherOfTwo P Q) x y
OfTwo-either P Q None y = ((λ s. elim s [ inl a ↦ a | inr b ↦ b ]), (λ e. absurd e))
OfTwo-either P Q (Some s) None = ((λ s. elim s [ inl a ↦ a | inr b ↦ b ]), (λ e. absurd e))
OfTwo-either P Q (Some s) (Some t) = iff_same

module _ (bit : PairFact → List ℕ → Bool) (r : Relation) (ws : List (List ℕ)) where
  -- a fact's bits are right for the children
  abbrev pub FactRight : PairFact → (ℕ → Option Tree) → (ℕ → Option Tree) → Type 0
  FactRight k left right = TwoRight (bit k) (PairFactHolds r k) ws left right

  Decides-kids_test : (number : HoleNumber) (ss ts : Trees) → length ws ≡ tree_count ss → length ws ≡ tree_count ts
      → ((k : PairFact) → Contains (facts_anywhere number) k → FactRight k (column_kid (Some (Node 0 ss))) (column_kid (Some (Node 0 ts))))
      → Decides (kids_test bit number ws) (KidsHold r number ss ts)
  Decides-kids_test OneHole ss ts l m h =
      Decides-one_kid (bit (Anywhere OneHole)) (bit Same) (HoldsInContext r OneHole AnyPlace) ◌≡◌ ws ss ts l m
      (h (Anywhere OneHole) (1, omega arith, refl)) (h Same (0, omega arith, refl))
  Decides-kids_test SomeHoles ss ts l m h =
      Decides-and (all_kids (bit (Anywhere AnyHoles)) ws) (some_kid (bit (Anywhere SomeHoles)) ws)
      (Decides-all_kids (bit (Anywhere AnyHoles)) (HoldsInContext r AnyHoles AnyPlace) ws ss ts l m (h (Anywhere AnyHoles) (0, omega arith, refl)))
      (Decides-some_kid (bit (Anywhere SomeHoles)) (HoldsInContext r SomeHoles AnyPlace) ws ss ts l m (h (Anywhere SomeHoles) (1, omega arith, refl)))
  Decides-kids_test AnyHoles ss ts l m h =
      Decides-all_kids (bit (Anywhere AnyHoles)) (HoldsInContext r AnyHoles AnyPlace) ws ss ts l m (h (Anywhere AnyHoles) (0, omega arith, refl))

  module _ (signature : Signature) where
    Decides-inside : (number : HoleNumber) (x y : Option Tree) → GroundAt signature x → GroundAt signature y → IsExact ws x y
        → ((k : PairFact) → Contains (facts_anywhere number) k → FactRight k (column_kid x) (column_kid y))
        → Decides (same_roots (column_root x) (column_root y) && kids_test bit number ws) (OfTwo (InsideTwo (KidsHold r number)) x y)
    Decides-inside number None y gx gy l h = Decides-false (λ e. e)
    Decides-inside number (Some (Node f ss)) None gx gy l h = Decides-false (λ e. e)
    Decides-inside number (Some (Node f ss)) (Some (Node g ts)) gx gy l h =
        Decides-and_then (f == g) (kids_test bit number ws) (Decides-eqb f g)
        (λ e. let d = same_counts signature f g ss ts gx gy e in Decides-kids_test number ss ts (omega arith) (omega arith) h)

    Decides-same : (x y : Option Tree) → GroundAt signature x → GroundAt signature y → IsExact ws x y → FactRight Same (column_kid x) (column_kid y)
        → Decides (same_roots (column_root x) (column_root y) && all_kids (bit Same) ws) (OfTwo ◌≡◌ x y)
    Decides-same None y gx gy l h = Decides-false (λ e. e)
    Decides-same (Some (Node f ss)) None gx gy l h = Decides-false (λ e. e)
    Decides-same (Some (Node f ss)) (Some (Node g ts)) gx gy l h =
        Decides-like ((f == g) && all_kids (bit Same) ws) (Node-equal_iff f g ss ts).1 (Node-equal_iff f g ss ts).0
        (Decides-and_then (f == g) (all_kids (bit Same) ws) (Decides-eqb f g)
        (λ e. let d = same_counts signature f g ss ts gx gy e in
        Decides-iff (all_kids (bit Same) ws) (AllRelated-equal ss ts) (Decides-all_kids (bit Same) ◌≡◌ ws ss ts (omega arith) (omega arith) h)))

    module _ (x y : Option Tree) (gx : GroundAt signature x) (gy : GroundAt signature y) (exact : IsExact ws x y) (root : Bool) (at_root : Decides root (OfTwo r x y)) where
      abbrev pub Told : PairFact → Type 0
      Told k = Decides (fact_step bit root (column_root x) (column_root y) ws k) (OfTwo (PairFactHolds r k) x y)

      told-anywhere : (number : HoleNumber) → ((k : PairFact) → Contains (facts_anywhere number) k → FactRight k (column_kid x) (column_kid y)) → Told (Anywhere number)
      told-anywhere number h =
          Decides-iff (root || (same_roots (column_root x) (column_root y) && kids_test bit number ws))
          (iff_then (OfTwo-either r (InsideTwo (KidsHold r number)) x y)
          (OfTwo-same (EitherOfTwo r (InsideTwo (KidsHold r number))) (HoldsInContext r number AnyPlace) x y (λ f g ss ts. iff_back (anywhere-by_root r number f g ss ts))))
          (Decides-or root (same_roots (column_root x) (column_root y) && kids_test bit number ws) at_root (Decides-inside number x y gx gy exact h))

      told-below : (number : HoleNumber) → ((k : PairFact) → Contains (facts_anywhere number) k → FactRight k (column_kid x) (column_kid y)) → Told (Below number)
      told-below number h =
          Decides-iff (same_roots (column_root x) (column_root y) && kids_test bit number ws)
          (OfTwo-same (InsideTwo (KidsHold r number)) (HoldsInContext r number BelowTheRoot) x y (λ f g ss ts. iff_back (below-by_root r number f g ss ts)))
          (Decides-inside number x y gx gy exact h)

      facts-one : (P : PairFact → Type 0) (k l : PairFact) → P k → Contains (k ∷ []) l → P l
      facts-one P k l h c = elim (Contains-cons_cases k [] l c) [ inl e ↦ subst P e h | inr n ↦ absurd (Contains-none l n) ]

      facts-more : (P : PairFact → Type 0) (k : PairFact) (ks : List PairFact) (l : PairFact) → P k → (Contains ks l → P l) → Contains (k ∷ ks) l → P l
      facts-more P k ks l h rest c = elim (Contains-cons_cases k ks l c) [ inl e ↦ subst P e h | inr n ↦ rest n ]

      each-anywhere : (number : HoleNumber) → ((k : PairFact) → Contains (facts_anywhere number) k → FactRight k (column_kid x) (column_kid y))
          → (k : PairFact) → Contains (facts_anywhere number) k → Told k
      each-anywhere OneHole h k c =
          facts-more Told Same (Anywhere OneHole ∷ []) k (Decides-same x y gx gy exact (h Same (0, omega arith, refl)))
          (λ d. facts-one Told (Anywhere OneHole) k (told-anywhere OneHole h) d) c
      each-anywhere SomeHoles h k c =
          facts-more Told (Anywhere AnyHoles) (Anywhere SomeHoles ∷ []) k
          (told-anywhere AnyHoles (λ l d. facts-one (λ m. FactRight m (column_kid x) (column_kid y)) (Anywhere AnyHoles) l (h (Anywhere AnyHoles) (0, omega arith, refl)) d))
          (λ d. facts-one Told (Anywhere SomeHoles) k (told-anywhere SomeHoles h) d) c
      each-anywhere AnyHoles h k c = facts-one Told (Anywhere AnyHoles) k (told-anywhere AnyHoles h) c

      each-at_root : (number : HoleNumber) → ((k : PairFact) → Contains (facts_at_root number) k → FactRight k (column_kid x) (column_kid y))
          → (k : PairFact) → Contains (facts_at_root number) k → Told k
      each-at_root OneHole h k c = absurd (Contains-none k c)
      each-at_root SomeHoles h k c = absurd (Contains-none k c)
      each-at_root AnyHoles h k c = facts-one Told Same k (Decides-same x y gx gy exact (h Same (0, omega arith, refl))) c

      -- all facts of a node
      pub Decides-fact_step : (number : HoleNumber) (place : HolePlace) → ((k : PairFact) → Contains (facts_for number place) k → FactRight k (column_kid x) (column_kid y))
          → (k : PairFact) → Contains (facts_for number place) k → Told k
      Decides-fact_step number AtTheRoot h k c = each-at_root number h k c
      Decides-fact_step number BelowTheRoot h k c =
          let ahead : (l : PairFact) → Contains (facts_anywhere number) l → FactRight l (column_kid x) (column_kid y) =
          λ l d. h l (Contains-append_left (facts_anywhere number) (Below number ∷ []) l d) in
          elim (Contains-append_cases (facts_anywhere number) (Below number ∷ []) k c) [
            | inl d ↦ each-anywhere number ahead k d
            | inr d ↦ facts-one Told (Below number) k (told-below number ahead) d
          ]
      Decides-fact_step number AnyPlace h k c = each-anywhere number h k c

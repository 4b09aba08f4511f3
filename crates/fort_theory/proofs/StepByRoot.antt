-- A step is a root step, or the root symbols agree and exactly one child steps; a step below the root is the second alone.
use Rattle.std.specs.Prelude.{◌≡◌, ◌≢◌, ◌⊎◌, ◌↔◌, ℕ, zero, suc, List, [], ◌∷◌, Some, refl}
use Rattle.std.proofs.Common.{sym, ap, subst, ◌∙◌, inl, inr}
use Rattle.fort_theory.specs.Trees.{Tree, Trees, Node, Nil, More, tree_count, subtree_among, replaced_among}
use Rattle.fort_theory.specs.Rewriting.{Relation, RewritesAt, Rewrites, RewritesBelow, RewritesInParallel, AllRewriteInParallel, AtRoot, Inside, Both, IsNormalForm}
use Rattle.fort_theory.proofs.Lists.{none-some, some-injective}

-- exactly one of the trees steps, and the others are equal
pub data OneRewrites (root : Relation) : Trees → Trees → Type 0 where
  Here : {s t : Tree} {ts : Trees} → Rewrites root s t → OneRewrites root (More s ts) (More t ts)
  There : {t : Tree} {ss ts : Trees} → OneRewrites root ss ts → OneRewrites root (More t ss) (More t ts)

-- the same by a place among the trees and a position in the tree there
pub record RewritesAmong (root : Relation) (ss ts : Trees) : Type 0 where
  pub place : ℕ
  pub position : List ℕ
  pub redex : Tree
  pub contractum : Tree
  pub stands : subtree_among ss place position ≡ Some redex
  pub contracts : root redex contractum
  pub result : ts ≡ replaced_among ss place position contractum

pub sym-injective : {f g : ℕ} {ss ts : Trees} → Node f ss ≡ Node g ts → f ≡ g
sym-injective h = cc

pub kids-injective : {f g : ℕ} {ss ts : Trees} → Node f ss ≡ Node g ts → ss ≡ ts
kids-injective h = cc

pub Node-equal : {f g : ℕ} {ss ts : Trees} → f ≡ g → ss ≡ ts → Node f ss ≡ Node g ts
Node-equal {f = f} {ts = ts} e h = ap (λ us. Node f us) h ∙ ap (λ x. Node x ts) e

-- two terms are equal where their root symbols and all children are
pub Node-equal_iff : (f g : ℕ) (ss ts : Trees) → (Node f ss ≡ Node g ts) ↔ ((f ≡ g) × (ss ≡ ts))
Node-equal_iff f g ss ts = ((λ h. (sym-injective h, kids-injective h)), (λ w. Node-equal w.0 w.1))

pub first-injective : {s t : Tree} {ss ts : Trees} → More s ss ≡ More t ts → s ≡ t
first-injective h = cc

pub rest-injective : {s t : Tree} {ss ts : Trees} → More s ss ≡ More t ts → ss ≡ ts
rest-injective h = cc

module _ {root : Relation} where
  OneRewrites-replaced_among : (ss : Trees) (i : ℕ) (p : List ℕ) (redex v : Tree) → subtree_among ss i p ≡ Some redex → root redex v → OneRewrites root ss (replaced_among ss i p v)
  OneRewrites-replaced_among Nil i p redex v h r = absurd (none-some h)
  OneRewrites-replaced_among (More s ss) zero p redex v h r =
      Here (p, record { redex = redex; contractum = v; stands = h; contracts = r; result = refl })
  OneRewrites-replaced_among (More s ss) (suc i) p redex v h r = There (OneRewrites-replaced_among ss i p redex v h r)

  pub OneRewrites-from_among : (ss ts : Trees) → RewritesAmong root ss ts → OneRewrites root ss ts
  OneRewrites-from_among ss ts h =
      subst (λ us. OneRewrites root ss us) (sym h.result) (OneRewrites-replaced_among ss h.place h.position h.redex h.contractum h.stands h.contracts)

  among-from_OneRewrites : {ss ts : Trees} → OneRewrites root ss ts → RewritesAmong root ss ts
  among-from_OneRewrites (Here {ts = ts} h) = record {
    place = 0;
    position = h.0;
    redex = h.1.redex;
    contractum = h.1.contractum;
    stands = h.1.stands;
    contracts = h.1.contracts;
    result = ap (λ u. More u ts) h.1.result;
  }
  among-from_OneRewrites (There {t = t} h) =
      let k = among-from_OneRewrites h in
      record {
        place = suc k.place;
        position = k.position;
        redex = k.redex;
        contractum = k.contractum;
        stands = k.stands;
        contracts = k.contracts;
        result = ap (λ us. More t us) k.result;
      }

  pub RewritesAmong-from_one : (ss ts : Trees) → OneRewrites root ss ts → RewritesAmong root ss ts
  RewritesAmong-from_one ss ts h = among-from_OneRewrites h

-- child by child
pub OneRewrites-Nil : (root : Relation) (ts : Trees) → OneRewrites root Nil ts → ⊥
OneRewrites-Nil root ts h = elim h [ ]

pub OneRewrites-to_Nil : (root : Relation) (ss : Trees) → OneRewrites root ss Nil → ⊥
OneRewrites-to_Nil root ss h = elim h [ ]

one-cases : {root : Relation} (s t : Tree) (ss ts : Trees) → OneRewrites root (More s ss) (More t ts) → (Rewrites root s t × (ss ≡ ts)) ⊎ ((s ≡ t) × OneRewrites root ss ts)
one-cases s t ss ts (Here h) = inl (h, refl)
one-cases s t ss ts (There h) = inr (refl, h)

pub OneRewrites-More : (root : Relation) (s t : Tree) (ss ts : Trees) → OneRewrites root (More s ss) (More t ts) ↔ ((Rewrites root s t × (ss ≡ ts)) ⊎ ((s ≡ t) × OneRewrites root ss ts))
OneRewrites-More root s t ss ts = (
  one-cases s t ss ts,
  (λ w. elim w [
    | inl a ↦ subst (λ us. OneRewrites root (More s ss) (More t us)) a.1 (Here a.0)
    | inr b ↦ subst (λ u. OneRewrites root (More s ss) (More u ts)) b.0 (There b.1)
  ]),
)

pub tree_count-OneRewrites : {root : Relation} {ss ts : Trees} → OneRewrites root ss ts → tree_count ss ≡ tree_count ts
tree_count-OneRewrites (Here h) = refl
tree_count-OneRewrites (There h) = ap suc (tree_count-OneRewrites h)

module _ (root : Relation) (f g : ℕ) (ss ts : Trees) where
  root-from_RewritesAt : (s t : Tree) → RewritesAt root [] s t → root s t
  root-from_RewritesAt s t h =
      subst (λ x. root s x) (sym h.result) (subst (λ x. root x h.contractum) (sym (some-injective h.stands)) h.contracts)

  one-from_RewritesAt : (i : ℕ) (p : List ℕ) → RewritesAt root (i ∷ p) (Node f ss) (Node g ts) → (f ≡ g) × OneRewrites root ss ts
  one-from_RewritesAt i p h = (
    sym (sym-injective h.result),
    OneRewrites-from_among ss ts (record {
      place = i;
      position = p;
      redex = h.redex;
      contractum = h.contractum;
      stands = h.stands;
      contracts = h.contracts;
      result = kids-injective h.result;
    }),
  )

  step-cases : (p : List ℕ) → RewritesAt root p (Node f ss) (Node g ts) → root (Node f ss) (Node g ts) ⊎ ((f ≡ g) × OneRewrites root ss ts)
  step-cases [] h = inl (root-from_RewritesAt (Node f ss) (Node g ts) h)
  step-cases (i ∷ p) h = inr (one-from_RewritesAt i p h)

  below-cases : (p : List ℕ) → p ≢ [] → RewritesAt root p (Node f ss) (Node g ts) → (f ≡ g) × OneRewrites root ss ts
  below-cases [] deep h = absurd (deep refl)
  below-cases (i ∷ p) deep h = one-from_RewritesAt i p h

  below-from_one : f ≡ g → OneRewrites root ss ts → RewritesBelow root (Node f ss) (Node g ts)
  below-from_one e h =
      let k = RewritesAmong-from_one ss ts h in
      let deep : (k.place ∷ k.position) ≢ [] = λ d. cc in (
        k.place ∷ k.position,
        deep,
        record {
          redex = k.redex;
          contractum = k.contractum;
          stands = k.stands;
          contracts = k.contracts;
          result = Node-equal (sym e) k.result;
        },
      )

  pub RewritesBelow-by_root : RewritesBelow root (Node f ss) (Node g ts) ↔ ((f ≡ g) × OneRewrites root ss ts)
  RewritesBelow-by_root = ((λ h. below-cases h.0 h.1 h.2), (λ w. below-from_one w.0 w.1))

  at_root : root (Node f ss) (Node g ts) → Rewrites root (Node f ss) (Node g ts)
  at_root h = ([], record { redex = Node f ss; contractum = Node g ts; stands = refl; contracts = h; result = refl })

  at_below : RewritesBelow root (Node f ss) (Node g ts) → Rewrites root (Node f ss) (Node g ts)
  at_below h = (h.0, h.2)

  pub Rewrites-by_root : Rewrites root (Node f ss) (Node g ts) ↔ (root (Node f ss) (Node g ts) ⊎ ((f ≡ g) × OneRewrites root ss ts))
  Rewrites-by_root = (
    (λ h. step-cases h.0 h.1),
    (λ w. elim w [ inl a ↦ at_root a | inr b ↦ at_below (below-from_one b.0 b.1) ]),
  )

-- the parallel step in the same way
parallel-cases : {root : Relation} (f g : ℕ) (ss ts : Trees) → RewritesInParallel root (Node f ss) (Node g ts) → root (Node f ss) (Node g ts) ⊎ ((f ≡ g) × AllRewriteInParallel root ss ts)
parallel-cases f g ss ts (AtRoot h) = inl h
parallel-cases f g ss ts (Inside hs) = inr (refl, hs)

pub RewritesInParallel-by_root : (root : Relation) (f g : ℕ) (ss ts : Trees)
    → RewritesInParallel root (Node f ss) (Node g ts) ↔ (root (Node f ss) (Node g ts) ⊎ ((f ≡ g) × AllRewriteInParallel root ss ts))
RewritesInParallel-by_root root f g ss ts = (
  parallel-cases f g ss ts,
  (λ w. elim w [ inl a ↦ AtRoot a | inr b ↦ subst (λ x. RewritesInParallel root (Node f ss) (Node x ts)) b.0 (Inside b.1) ]),
)

all_parallel-parts : {root : Relation} (s t : Tree) (ss ts : Trees) → AllRewriteInParallel root (More s ss) (More t ts) → RewritesInParallel root s t × AllRewriteInParallel root ss ts
all_parallel-parts s t ss ts (Both h hs) = (h, hs)

pub AllRewriteInParallel-More : (root : Relation) (s t : Tree) (ss ts : Trees)
    → AllRewriteInParallel root (More s ss) (More t ts) ↔ (RewritesInParallel root s t × AllRewriteInParallel root ss ts)
AllRewriteInParallel-More root s t ss ts = (all_parallel-parts s t ss ts, (λ w. Both w.0 w.1))

pub AllRewriteInParallel-Nil_More : (root : Relation) (t : Tree) (ts : Trees) → AllRewriteInParallel root Nil (More t ts) → ⊥
AllRewriteInParallel-Nil_More root t ts h = elim h [ ]

pub AllRewriteInParallel-More_Nil : (root : Relation) (s : Tree) (ss : Trees) → AllRewriteInParallel root (More s ss) Nil → ⊥
AllRewriteInParallel-More_Nil root s ss h = elim h [ ]

-- no step starts at any of the trees
abbrev pub AreNormalForms : Relation → Trees → Type 0
AreNormalForms root Nil = Unit {0}
AreNormalForms root (More s ss) = IsNormalForm root s × AreNormalForms root ss

none-from_normal : (root : Relation) (ss : Trees) → AreNormalForms root ss → (ts : Trees) → OneRewrites root ss ts → ⊥
none-from_normal root Nil normal ts h = OneRewrites-Nil root ts h
none-from_normal root (More s ss) normal Nil h = OneRewrites-to_Nil root (More s ss) h
none-from_normal root (More s ss) normal (More t ts) h =
    elim (one-cases s t ss ts h) [ inl a ↦ normal.0 t a.0 | inr b ↦ none-from_normal root ss normal.1 ts b.1 ]

normal-from_none : (root : Relation) (ss : Trees) → ((ts : Trees) → OneRewrites root ss ts → ⊥) → AreNormalForms root ss
normal-from_none root Nil none = tt
normal-from_none root (More s ss) none =
    ((λ t h. none (More t ss) (Here h)), normal-from_none root ss (λ ts h. none (More s ts) (There h)))

no_step : (root : Relation) (f : ℕ) (ss : Trees) → ((t : Tree) → root (Node f ss) t → ⊥) → AreNormalForms root ss → (t : Tree) → Rewrites root (Node f ss) t → ⊥
no_step root f ss none normal (Node g ts) h =
    elim ((Rewrites-by_root root f g ss ts).0 h) [ inl a ↦ none (Node g ts) a | inr b ↦ none-from_normal root ss normal ts b.1 ]

-- a normal form is a term without a root step whose children are normal forms
pub IsNormalForm-by_root : (root : Relation) (f : ℕ) (ss : Trees) → IsNormalForm root (Node f ss) ↔ (((t : Tree) → root (Node f ss) t → ⊥) × AreNormalForms root ss)
IsNormalForm-by_root root f ss = (
  (λ normal. (
    (λ t h. normal t ([], record { redex = Node f ss; contractum = t; stands = refl; contracts = h; result = refl })),
    normal-from_none root ss (λ ts h. normal (Node f ts) ((Rewrites-by_root root f f ss ts).1 (inr (refl, h)))),
  )),
  (λ w. no_step root f ss w.0 w.1),
)

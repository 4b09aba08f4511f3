-- A conversion is a reduction by the root steps in either direction.
use Rattle.std.specs.Prelude.{◌≡◌, ◌↔◌, ◌⊎◌, ℕ, zero, suc, List, [], ◌∷◌, Some, refl}
use Rattle.std.proofs.Common.{sym, ap, ◌∙◌, inl, inr}
use Rattle.fort_theory.specs.Trees.{Tree, Trees, Node, Nil, More, subtree_at, subtree_among, replaced_at, replaced_among}
use Rattle.fort_theory.specs.Rewriting.{Relation, Rewrites, RewritesEitherWay, Reduces, Converts}
use Rattle.fort_theory.proofs.Lists.{none-some, some-injective}
use Rattle.fort_theory.proofs.WithinRoots.{Path-within}

mutual
  stands-replaced : (p : List ℕ) (s u v : Tree) → subtree_at s p ≡ Some u → subtree_at (replaced_at s p v) p ≡ Some v
  stands-replaced [] s u v h = refl
  stands-replaced (i ∷ p) (Node f ss) u v h = stands-replaced_among p ss i u v h

  stands-replaced_among : (p : List ℕ) (ss : Trees) (i : ℕ) (u v : Tree) → subtree_among ss i p ≡ Some u
      → subtree_among (replaced_among ss i p v) i p ≡ Some v
  stands-replaced_among p Nil i u v h = absurd (none-some h)
  stands-replaced_among p (More s ss) zero u v h = stands-replaced p s u v h
  stands-replaced_among p (More s ss) (suc i) u v h = stands-replaced_among p ss i u v h

mutual
  replaced-back : (p : List ℕ) (s u v : Tree) → subtree_at s p ≡ Some u → s ≡ replaced_at (replaced_at s p v) p u
  replaced-back [] s u v h = some-injective h
  replaced-back (i ∷ p) (Node f ss) u v h = ap (λ x. Node f x) (replaced-back_among p ss i u v h)

  replaced-back_among : (p : List ℕ) (ss : Trees) (i : ℕ) (u v : Tree) → subtree_among ss i p ≡ Some u
      → ss ≡ replaced_among (replaced_among ss i p v) i p u
  replaced-back_among p Nil i u v h = refl
  replaced-back_among p (More s ss) zero u v h = ap (λ x. More x ss) (replaced-back p s u v h)
  replaced-back_among p (More s ss) (suc i) u v h = ap (λ x. More s x) (replaced-back_among p ss i u v h)

-- a step by other root steps, at its own redex, in its own direction and turned round
rewrites-by : {r q : Relation} {s t : Tree} (h : Rewrites r s t) → q h.1.redex h.1.contractum → Rewrites q s t
rewrites-by h k = (h.0, record { redex = h.1.redex; contractum = h.1.contractum; stands = h.1.stands; contracts = k; result = h.1.result })

rewrites-back : {r q : Relation} (s t : Tree) (h : Rewrites r s t) → q h.1.contractum h.1.redex → Rewrites q t s
rewrites-back s t h k = (
  h.0,
  record {
    redex = h.1.contractum;
    contractum = h.1.redex;
    stands = ap (λ x. subtree_at x h.0) h.1.result ∙ stands-replaced h.0 s h.1.redex h.1.contractum h.1.stands;
    contracts = k;
    result = replaced-back h.0 s h.1.redex h.1.contractum h.1.stands ∙ ap (λ x. replaced_at x h.0 h.1.redex) (sym h.1.result);
  },
)

abbrev pub EitherWay : Relation → Relation
EitherWay root s t = root s t ⊎ root t s

module _ (root : Relation) where
  either-cases : (s t : Tree) (h : Rewrites (EitherWay root) s t) → EitherWay root h.1.redex h.1.contractum → RewritesEitherWay root s t
  either-cases s t h (inl k) = inl (rewrites-by h k)
  either-cases s t h (inr k) = inr (rewrites-back s t h k)

  step-either_way : (s t : Tree) → RewritesEitherWay root s t → Rewrites (EitherWay root) s t
  step-either_way s t (inl h) = rewrites-by h (inl h.1.contracts)
  step-either_way s t (inr h) = rewrites-back t s h (inr h.1.contracts)

  pub Reduces-EitherWay : (s t : Tree) → Reduces (EitherWay root) s t ↔ Converts root s t
  Reduces-EitherWay s t = (
    (λ h. (h.0, Path-within (Rewrites (EitherWay root)) (RewritesEitherWay root) (λ u v k. either-cases u v k k.1.contracts) s h.0 t h.1)),
    (λ h. (h.0, Path-within (RewritesEitherWay root) (Rewrites (EitherWay root)) step-either_way s h.0 t h.1)),
  )

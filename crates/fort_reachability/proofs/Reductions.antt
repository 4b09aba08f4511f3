-- A reduction goes child by child, and then either ends or has a step at the root and goes on from there; so told it is a list of steps, both ways.
use Rattle.std.specs.Prelude.{◌≡◌, ℕ, zero, suc, List, [], ◌∷◌, ◌++◌, Some, refl}
use Rattle.std.proofs.Common.{sym, subst, inr}
use Rattle.fort_theory.specs.Trees.{Tree, Trees, Node, Nil, More, subtree_at, subtree_among, replaced_at, replaced_among}
use Rattle.fort_theory.specs.Rewriting.{Relation, Rewrites, Path, Reduces}
use Rattle.fort_theory.proofs.Lists.{some-injective}
use Rattle.fort_theory.proofs.Constants.{Rewrites-from_root}
use Rattle.fort_theory.proofs.StepByRoot.{OneRewrites, Here, There, Rewrites-by_root}

mutual
  pub data Reduction (root : Relation) : Tree → Tree → Type 0 where
    Below : {f : ℕ} {ss ts : Trees} → Reductions root ss ts → Reduction root (Node f ss) (Node f ts)
    ByRoot : {f : ℕ} {ss us : Trees} {v t : Tree} → Reductions root ss us → root (Node f us) v → Reduction root v t → Reduction root (Node f ss) t

  pub data Reductions (root : Relation) : Trees → Trees → Type 0 where
    NoReduction : Reductions root Nil Nil
    MoreReductions : {s t : Tree} {ss ts : Trees} → Reduction root s t → Reductions root ss ts → Reductions root (More s ss) (More t ts)

-- lists of steps, one behind the other

Path-append : (r : Relation) (s : Tree) (us : List Tree) (t : Tree) (vs : List Tree) (w : Tree) → Path r s us t → Path r t vs w → Path r s (us ++ vs) w
Path-append r s [] t vs w h k = subst (λ x. Path r x vs w) (sym h) k
Path-append r s (u ∷ us) t vs w h k = (h.0, Path-append r u us t vs w h.1 k)

pub Reduces-refl : (root : Relation) (t : Tree) → Reduces root t t
Reduces-refl root t = ([], refl)

pub Reduces-trans : (root : Relation) (s t u : Tree) → Reduces root s t → Reduces root t u → Reduces root s u
Reduces-trans root s t u h k = (h.0 ++ k.0, Path-append (Rewrites root) s h.0 t k.0 u h.1 k.1)

Reduces-after_step : (root : Relation) (s t u : Tree) → Rewrites root s t → Reduces root t u → Reduces root s u
Reduces-after_step root s t u h k = (t ∷ k.0, (h, k.1))

pub Reduces-through_root : (root : Relation) (s u v t : Tree) → Reduces root s u → root u v → Reduces root v t → Reduces root s t
Reduces-through_root root s u v t h one k = Reduces-trans root s u t h (Reduces-after_step root u v t (Rewrites-from_root root u v one) k)

-- a reduction is a list of steps, also where it stands within a larger term

step-at_node : (root : Relation) (f : ℕ) (ss ts : Trees) → OneRewrites root ss ts → Rewrites root (Node f ss) (Node f ts)
step-at_node root f ss ts h = (Rewrites-by_root root f f ss ts).1 (inr (refl, h))

mutual
  reduces-within : (root : Relation) (within : Tree → Tree) → ((u v : Tree) → Rewrites root u v → Rewrites root (within u) (within v))
      → {s t : Tree} → Reduction root s t → Reduces root (within s) (within t)
  reduces-within root within step (Below {f = f} ks) =
      all_reduce-within root (λ us. within (Node f us)) (λ us vs h. step (Node f us) (Node f vs) (step-at_node root f us vs h)) ks
  reduces-within root within step (ByRoot {f = f} {ss = ss} {us = us} {v = v} {t = t} ks one rest) =
      Reduces-trans root (within (Node f ss)) (within (Node f us)) (within t)
      (all_reduce-within root (λ ws. within (Node f ws)) (λ ws xs h. step (Node f ws) (Node f xs) (step-at_node root f ws xs h)) ks)
      (Reduces-after_step root (within (Node f us)) (within v) (within t)
      (step (Node f us) v (Rewrites-from_root root (Node f us) v one)) (reduces-within root within step rest))

  all_reduce-within : (root : Relation) (within : Trees → Tree) → ((us vs : Trees) → OneRewrites root us vs → Rewrites root (within us) (within vs))
      → {ss ts : Trees} → Reductions root ss ts → Reduces root (within ss) (within ts)
  all_reduce-within root within step NoReduction = Reduces-refl root (within Nil)
  all_reduce-within root within step (MoreReductions {s = s} {t = t} {ss = ss} {ts = ts} k ks) =
      Reduces-trans root (within (More s ss)) (within (More t ss)) (within (More t ts))
      (reduces-within root (λ u. within (More u ss)) (λ u v h. step (More u ss) (More v ss) (Here h)) k)
      (all_reduce-within root (λ us. within (More t us)) (λ us vs h. step (More t us) (More t vs) (There h)) ks)

pub Reduces-from_Reduction : {root : Relation} {s t : Tree} → Reduction root s t → Reduces root s t
Reduces-from_Reduction {root = root} k = reduces-within root (λ u. u) (λ u v h. h) k

-- a step before a reduction is a reduction

mutual
  pub Reduction-refl : {root : Relation} (t : Tree) → Reduction root t t
  Reduction-refl (Node f ts) = Below (Reductions-refl ts)

  Reductions-refl : {root : Relation} (ts : Trees) → Reductions root ts ts
  Reductions-refl Nil = NoReduction
  Reductions-refl (More t ts) = MoreReductions (Reduction-refl t) (Reductions-refl ts)

after-children : {root : Relation} {f : ℕ} {ss us : Trees} {t : Tree} → ((ts : Trees) → Reductions root us ts → Reductions root ss ts)
    → Reduction root (Node f us) t → Reduction root (Node f ss) t
after-children g (Below ks) = Below (g _ ks)
after-children g (ByRoot ks one rest) = ByRoot (g _ ks) one rest

after-first : {root : Relation} {s u : Tree} {us ts : Trees} → ((t : Tree) → Reduction root u t → Reduction root s t)
    → Reductions root (More u us) ts → Reductions root (More s us) ts
after-first g (MoreReductions k ks) = MoreReductions (g _ k) ks

after-rest : {root : Relation} {u : Tree} {ss us ts : Trees} → ((vs : Trees) → Reductions root us vs → Reductions root ss vs)
    → Reductions root (More u us) ts → Reductions root (More u ss) ts
after-rest g (MoreReductions k ks) = MoreReductions k (g _ ks)

after-root : {root : Relation} (s : Tree) {v t : Tree} → root s v → Reduction root v t → Reduction root s t
after-root (Node f ss) one rest = ByRoot (Reductions-refl ss) one rest

mutual
  after-step_at : {root : Relation} (p : List ℕ) (s redex v t : Tree) → subtree_at s p ≡ Some redex → root redex v
      → Reduction root (replaced_at s p v) t → Reduction root s t
  after-step_at {root = root} [] s redex v t stands one rest = after-root s (subst (λ x. root x v) (sym (some-injective stands)) one) rest
  after-step_at (i ∷ p) (Node f ss) redex v t stands one rest = after-children (λ ts ks. after-step_among p ss i redex v ts stands one ks) rest

  after-step_among : {root : Relation} (p : List ℕ) (ss : Trees) (i : ℕ) (redex v : Tree) (ts : Trees) → subtree_among ss i p ≡ Some redex → root redex v
      → Reductions root (replaced_among ss i p v) ts → Reductions root ss ts
  after-step_among p Nil i redex v ts stands one rest = rest
  after-step_among p (More s ss) zero redex v ts stands one rest = after-first (λ t k. after-step_at p s redex v t stands one k) rest
  after-step_among p (More s ss) (suc i) redex v ts stands one rest = after-rest (λ vs ks. after-step_among p ss i redex v vs stands one ks) rest

Reduction-after_step : {root : Relation} {s u t : Tree} → Rewrites root s u → Reduction root u t → Reduction root s t
Reduction-after_step {root = root} {s = s} {t = t} h k =
    after-step_at h.0 s h.1.redex h.1.contractum t h.1.stands h.1.contracts (subst (λ x. Reduction root x t) h.1.result k)

Reduction-from_Path : {root : Relation} (s : Tree) (us : List Tree) (t : Tree) → Path (Rewrites root) s us t → Reduction root s t
Reduction-from_Path {root = root} s [] t h = subst (λ x. Reduction root s x) h (Reduction-refl s)
Reduction-from_Path s (u ∷ us) t h = Reduction-after_step h.0 (Reduction-from_Path u us t h.1)

pub Reduction-from_Reduces : {root : Relation} (s t : Tree) → Reduces root s t → Reduction root s t
Reduction-from_Reduces s t h = Reduction-from_Path s h.0 t h.1

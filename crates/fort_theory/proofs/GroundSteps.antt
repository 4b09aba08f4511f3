-- Where the root relation is between ground terms, steps, lists of them and parallel steps lead from ground terms to ground terms, in both directions.
use Rattle.std.specs.Prelude.{◌≡◌, ℕ, zero, suc, List, [], ◌∷◌, All, Some, refl}
use Rattle.std.proofs.Common.{sym, ap, subst, ◌∙◌, inl, inr}
use Rattle.std.proofs.lemmas.List.Elements.{All-nil, All-cons}
use Rattle.fort_theory.specs.Trees.{Tree, Trees, Node, Nil, More, tree_count, subtree_at, subtree_among, replaced_at, replaced_among}
use Rattle.fort_theory.specs.Signatures.{Signature, IsGround, AreGround}
use Rattle.fort_theory.specs.Sides.{Rule}
use Rattle.fort_theory.specs.Patterns.{Pair}
use Rattle.fort_theory.specs.Rewriting.{Relation, RewritesAt, Rewrites, RewritesBelow, RewritesAtMostOnce, Path, Reduces, ReducesStrictly, RewritesEitherWay, Converts, RewritesInParallel, AllRewriteInParallel, AtRoot, Inside, End, Both, RootStep}
use Rattle.fort_theory.specs.PatternSteps.{PatternStep}
use Rattle.fort_theory.proofs.Lists.{none-some, some-injective}

-- only ground terms are related
abbrev pub RelatesGround : Signature → Relation → Type 0
RelatesGround signature root = (s t : Tree) → root s t → IsGround signature s × IsGround signature t

pub RelatesGround-RootStep : (signature : Signature) (rules : List Rule) → RelatesGround signature (RootStep signature rules)
RelatesGround-RootStep signature rules s t h = (h.left_grounded, h.right_grounded)

pub RelatesGround-PatternStep : (signature : Signature) (pairs : List Pair) → RelatesGround signature (PatternStep signature pairs)
RelatesGround-PatternStep signature pairs s t h = (h.left_grounded, h.right_grounded)

pub tree_count-replaced_among : (ts : Trees) (i : ℕ) (p : List ℕ) (u : Tree) → tree_count (replaced_among ts i p u) ≡ tree_count ts
tree_count-replaced_among Nil i p u = refl
tree_count-replaced_among (More t ts) zero p u = refl
tree_count-replaced_among (More t ts) (suc i) p u = ap suc (tree_count-replaced_among ts i p u)

mutual
  pub IsGround-subtree_at : (signature : Signature) (s : Tree) (p : List ℕ) (u : Tree) → IsGround signature s → subtree_at s p ≡ Some u → IsGround signature u
  IsGround-subtree_at signature s [] u g h = subst (IsGround signature) (some-injective h) g
  IsGround-subtree_at signature (Node f ts) (i ∷ p) u g h = IsGround-subtree_among signature ts i p u g.1 h

  pub IsGround-subtree_among : (signature : Signature) (ts : Trees) (i : ℕ) (p : List ℕ) (u : Tree) → AreGround signature ts → subtree_among ts i p ≡ Some u → IsGround signature u
  IsGround-subtree_among signature Nil i p u g h = absurd (none-some h)
  IsGround-subtree_among signature (More t ts) zero p u g h = IsGround-subtree_at signature t p u g.0 h
  IsGround-subtree_among signature (More t ts) (suc i) p u g h = IsGround-subtree_among signature ts i p u g.1 h

mutual
  pub IsGround-replaced_at : (signature : Signature) (s : Tree) (p : List ℕ) (u : Tree) → IsGround signature s → IsGround signature u → IsGround signature (replaced_at s p u)
  IsGround-replaced_at signature s [] u g h = h
  IsGround-replaced_at signature (Node f ts) (i ∷ p) u g h =
      (g.0 ∙ ap Some (sym (tree_count-replaced_among ts i p u)), AreGround-replaced_among signature ts i p u g.1 h)

  pub AreGround-replaced_among : (signature : Signature) (ts : Trees) (i : ℕ) (p : List ℕ) (u : Tree) → AreGround signature ts → IsGround signature u → AreGround signature (replaced_among ts i p u)
  AreGround-replaced_among signature Nil i p u g h = tt
  AreGround-replaced_among signature (More t ts) zero p u g h = (IsGround-replaced_at signature t p u g.0 h, g.1)
  AreGround-replaced_among signature (More t ts) (suc i) p u g h = (g.0, AreGround-replaced_among signature ts i p u g.1 h)

-- a tree is ground if it is so with another tree at a position where a ground term stands
mutual
  pub IsGround-from_replaced_at : (signature : Signature) (s : Tree) (p : List ℕ) (redex u : Tree) → subtree_at s p ≡ Some redex → IsGround signature redex
      → IsGround signature (replaced_at s p u) → IsGround signature s
  IsGround-from_replaced_at signature s [] redex u h r g = subst (IsGround signature) (sym (some-injective h)) r
  IsGround-from_replaced_at signature (Node f ts) (i ∷ p) redex u h r g =
      (g.0 ∙ ap Some (tree_count-replaced_among ts i p u), AreGround-from_replaced_among signature ts i p redex u h r g.1)

  pub AreGround-from_replaced_among : (signature : Signature) (ts : Trees) (i : ℕ) (p : List ℕ) (redex u : Tree) → subtree_among ts i p ≡ Some redex → IsGround signature redex
      → AreGround signature (replaced_among ts i p u) → AreGround signature ts
  AreGround-from_replaced_among signature Nil i p redex u h r g = absurd (none-some h)
  AreGround-from_replaced_among signature (More t ts) zero p redex u h r g = (IsGround-from_replaced_at signature t p redex u h r g.0, g.1)
  AreGround-from_replaced_among signature (More t ts) (suc i) p redex u h r g = (g.0, AreGround-from_replaced_among signature ts i p redex u h r g.1)

-- a relation that leads from ground terms to ground terms alone, and one that comes from them alone
abbrev pub KeepsGround : Signature → Relation → Type 0
KeepsGround signature r = (s t : Tree) → r s t → IsGround signature s → IsGround signature t

abbrev pub ComesFromGround : Signature → Relation → Type 0
ComesFromGround signature r = (s t : Tree) → r s t → IsGround signature t → IsGround signature s

-- the list of terms of a path that has a ground term at one end
pub Path-from_ground : (signature : Signature) (r : Relation) → KeepsGround signature r → (s : Tree) (us : List Tree) (t : Tree) → Path r s us t
    → IsGround signature s → All (IsGround signature) us × IsGround signature t
Path-from_ground signature r keeps s [] t h g = (All-nil (IsGround signature), subst (IsGround signature) h g)
Path-from_ground signature r keeps s (u ∷ us) t h g =
    let first = keeps s u h.0 g in
    let rest = Path-from_ground signature r keeps u us t h.1 first in
    (All-cons (IsGround signature) u us first rest.0, rest.1)

pub Path-to_ground : (signature : Signature) (r : Relation) → ComesFromGround signature r → (s : Tree) (us : List Tree) (t : Tree) → Path r s us t
    → IsGround signature t → All (IsGround signature) us × IsGround signature s
Path-to_ground signature r comes s [] t h g = (All-nil (IsGround signature), subst (IsGround signature) (sym h) g)
Path-to_ground signature r comes s (u ∷ us) t h g =
    let rest = Path-to_ground signature r comes u us t h.1 g in
    (All-cons (IsGround signature) u us rest.1 rest.0, comes s u h.0 rest.1)

module _ (signature : Signature) (root : Relation) (between : RelatesGround signature root) where
  pub RewritesAt-keeps_ground : (p : List ℕ) → KeepsGround signature (RewritesAt root p)
  RewritesAt-keeps_ground p s t h g =
      subst (IsGround signature) (sym h.result) (IsGround-replaced_at signature s p h.contractum g (between h.redex h.contractum h.contracts).1)

  pub RewritesAt-comes_from_ground : (p : List ℕ) → ComesFromGround signature (RewritesAt root p)
  RewritesAt-comes_from_ground p s t h g =
      IsGround-from_replaced_at signature s p h.redex h.contractum h.stands (between h.redex h.contractum h.contracts).0
      (subst (IsGround signature) h.result g)

  pub Rewrites-keeps_ground : KeepsGround signature (Rewrites root)
  Rewrites-keeps_ground s t h g = RewritesAt-keeps_ground h.0 s t h.1 g

  pub Rewrites-comes_from_ground : ComesFromGround signature (Rewrites root)
  Rewrites-comes_from_ground s t h g = RewritesAt-comes_from_ground h.0 s t h.1 g

  pub RewritesBelow-keeps_ground : KeepsGround signature (RewritesBelow root)
  RewritesBelow-keeps_ground s t h g = RewritesAt-keeps_ground h.0 s t h.2 g

  pub RewritesBelow-comes_from_ground : ComesFromGround signature (RewritesBelow root)
  RewritesBelow-comes_from_ground s t h g = RewritesAt-comes_from_ground h.0 s t h.2 g

  pub RewritesAtMostOnce-keeps_ground : KeepsGround signature (RewritesAtMostOnce root)
  RewritesAtMostOnce-keeps_ground s t (inl e) g = subst (IsGround signature) e g
  RewritesAtMostOnce-keeps_ground s t (inr h) g = Rewrites-keeps_ground s t h g

  pub RewritesAtMostOnce-comes_from_ground : ComesFromGround signature (RewritesAtMostOnce root)
  RewritesAtMostOnce-comes_from_ground s t (inl e) g = subst (IsGround signature) (sym e) g
  RewritesAtMostOnce-comes_from_ground s t (inr h) g = Rewrites-comes_from_ground s t h g

  pub RewritesEitherWay-keeps_ground : KeepsGround signature (RewritesEitherWay root)
  RewritesEitherWay-keeps_ground s t (inl h) g = Rewrites-keeps_ground s t h g
  RewritesEitherWay-keeps_ground s t (inr h) g = Rewrites-comes_from_ground t s h g

  pub RewritesEitherWay-comes_from_ground : ComesFromGround signature (RewritesEitherWay root)
  RewritesEitherWay-comes_from_ground s t (inl h) g = Rewrites-comes_from_ground s t h g
  RewritesEitherWay-comes_from_ground s t (inr h) g = Rewrites-keeps_ground t s h g

  -- every term of a list of steps that starts, or ends, at a ground term is ground
  pub Path_of_Rewrites-from_ground : (s : Tree) (us : List Tree) (t : Tree) → Path (Rewrites root) s us t → IsGround signature s
      → All (IsGround signature) us × IsGround signature t
  Path_of_Rewrites-from_ground = Path-from_ground signature (Rewrites root) Rewrites-keeps_ground

  pub Path_of_Rewrites-to_ground : (s : Tree) (us : List Tree) (t : Tree) → Path (Rewrites root) s us t → IsGround signature t
      → All (IsGround signature) us × IsGround signature s
  Path_of_Rewrites-to_ground = Path-to_ground signature (Rewrites root) Rewrites-comes_from_ground

  pub Path_of_RewritesEitherWay-from_ground : (s : Tree) (us : List Tree) (t : Tree) → Path (RewritesEitherWay root) s us t → IsGround signature s
      → All (IsGround signature) us × IsGround signature t
  Path_of_RewritesEitherWay-from_ground = Path-from_ground signature (RewritesEitherWay root) RewritesEitherWay-keeps_ground

  pub Path_of_RewritesEitherWay-to_ground : (s : Tree) (us : List Tree) (t : Tree) → Path (RewritesEitherWay root) s us t → IsGround signature t
      → All (IsGround signature) us × IsGround signature s
  Path_of_RewritesEitherWay-to_ground = Path-to_ground signature (RewritesEitherWay root) RewritesEitherWay-comes_from_ground

  pub Reduces-keeps_ground : KeepsGround signature (Reduces root)
  Reduces-keeps_ground s t h g = (Path_of_Rewrites-from_ground s h.0 t h.1 g).1

  pub Reduces-comes_from_ground : ComesFromGround signature (Reduces root)
  Reduces-comes_from_ground s t h g = (Path_of_Rewrites-to_ground s h.0 t h.1 g).1

  pub ReducesStrictly-keeps_ground : KeepsGround signature (ReducesStrictly root)
  ReducesStrictly-keeps_ground s t h g = (Path_of_Rewrites-from_ground s (h.0 ∷ h.1) t h.2 g).1

  pub ReducesStrictly-comes_from_ground : ComesFromGround signature (ReducesStrictly root)
  ReducesStrictly-comes_from_ground s t h g = (Path_of_Rewrites-to_ground s (h.0 ∷ h.1) t h.2 g).1

  pub Converts-keeps_ground : KeepsGround signature (Converts root)
  Converts-keeps_ground s t h g = (Path_of_RewritesEitherWay-from_ground s h.0 t h.1 g).1

  pub Converts-comes_from_ground : ComesFromGround signature (Converts root)
  Converts-comes_from_ground s t h g = (Path_of_RewritesEitherWay-to_ground s h.0 t h.1 g).1

tree_count-AllRewriteInParallel : {root : Relation} {ss ts : Trees} → AllRewriteInParallel root ss ts → tree_count ss ≡ tree_count ts
tree_count-AllRewriteInParallel End = refl
tree_count-AllRewriteInParallel (Both h hs) = ap suc (tree_count-AllRewriteInParallel hs)

mutual
  parallel-from_ground : (signature : Signature) {root : Relation} {s t : Tree} → RelatesGround signature root → RewritesInParallel root s t → IsGround signature s → IsGround signature t
  parallel-from_ground signature {s = s} {t = t} between (AtRoot h) g = (between s t h).1
  parallel-from_ground signature between (Inside hs) g =
      (g.0 ∙ ap Some (tree_count-AllRewriteInParallel hs), all_parallel-from_ground signature between hs g.1)

  all_parallel-from_ground : (signature : Signature) {root : Relation} {ss ts : Trees} → RelatesGround signature root → AllRewriteInParallel root ss ts → AreGround signature ss → AreGround signature ts
  all_parallel-from_ground signature between End g = tt
  all_parallel-from_ground signature between (Both h hs) g = (parallel-from_ground signature between h g.0, all_parallel-from_ground signature between hs g.1)

mutual
  parallel-to_ground : (signature : Signature) {root : Relation} {s t : Tree} → RelatesGround signature root → RewritesInParallel root s t → IsGround signature t → IsGround signature s
  parallel-to_ground signature {s = s} {t = t} between (AtRoot h) g = (between s t h).0
  parallel-to_ground signature between (Inside hs) g =
      (g.0 ∙ ap Some (sym (tree_count-AllRewriteInParallel hs)), all_parallel-to_ground signature between hs g.1)

  all_parallel-to_ground : (signature : Signature) {root : Relation} {ss ts : Trees} → RelatesGround signature root → AllRewriteInParallel root ss ts → AreGround signature ts → AreGround signature ss
  all_parallel-to_ground signature between End g = tt
  all_parallel-to_ground signature between (Both h hs) g = (parallel-to_ground signature between h g.0, all_parallel-to_ground signature between hs g.1)

pub RewritesInParallel-keeps_ground : (signature : Signature) (root : Relation) → RelatesGround signature root → KeepsGround signature (RewritesInParallel root)
RewritesInParallel-keeps_ground signature root between s t h g = parallel-from_ground signature between h g

pub RewritesInParallel-comes_from_ground : (signature : Signature) (root : Relation) → RelatesGround signature root → ComesFromGround signature (RewritesInParallel root)
RewritesInParallel-comes_from_ground signature root between s t h g = parallel-to_ground signature between h g

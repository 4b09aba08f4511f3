-- What a root relation relates, another one does too: then it has the first one's steps, reductions and conversions, and no normal form that is none of the first.
use Rattle.std.specs.Prelude.{ℕ, List, [], ◌∷◌}
use Rattle.std.proofs.Common.{inl, inr}
use Rattle.fort_theory.specs.Trees.{Tree, Trees}
use Rattle.fort_theory.specs.Rewriting.{Relation, RewritesAt, Rewrites, RewritesBelow, RewritesAtMostOnce, Path, Reduces, ReducesStrictly, RewritesEitherWay, Converts, RewritesInParallel, AllRewriteInParallel, AtRoot, Inside, End, Both, IsNormalForm}

-- what the first relates, the second does
abbrev pub Within : Relation → Relation → Type 0
Within r q = (s t : Tree) → r s t → q s t

pub Path-within : (r q : Relation) → Within r q → (s : Tree) (us : List Tree) (t : Tree) → Path r s us t → Path q s us t
Path-within r q w s [] t h = h
Path-within r q w s (u ∷ us) t h = (w s u h.0, Path-within r q w u us t h.1)

mutual
  parallel-within : {r q : Relation} {s t : Tree} → Within r q → RewritesInParallel r s t → RewritesInParallel q s t
  parallel-within {s = s} {t = t} w (AtRoot h) = AtRoot (w s t h)
  parallel-within w (Inside hs) = Inside (all_parallel-within w hs)

  all_parallel-within : {r q : Relation} {ss ts : Trees} → Within r q → AllRewriteInParallel r ss ts → AllRewriteInParallel q ss ts
  all_parallel-within w End = End
  all_parallel-within w (Both h hs) = Both (parallel-within w h) (all_parallel-within w hs)

module _ (r q : Relation) (w : Within r q) where
  pub RewritesAt-within : (p : List ℕ) → Within (RewritesAt r p) (RewritesAt q p)
  RewritesAt-within p s t h = record {
    redex = h.redex;
    contractum = h.contractum;
    stands = h.stands;
    contracts = w h.redex h.contractum h.contracts;
    result = h.result;
  }

  pub Rewrites-within : Within (Rewrites r) (Rewrites q)
  Rewrites-within s t h = (h.0, RewritesAt-within h.0 s t h.1)

  pub RewritesBelow-within : Within (RewritesBelow r) (RewritesBelow q)
  RewritesBelow-within s t h = (h.0, h.1, RewritesAt-within h.0 s t h.2)

  pub RewritesAtMostOnce-within : Within (RewritesAtMostOnce r) (RewritesAtMostOnce q)
  RewritesAtMostOnce-within s t (inl e) = inl e
  RewritesAtMostOnce-within s t (inr h) = inr (Rewrites-within s t h)

  pub RewritesEitherWay-within : Within (RewritesEitherWay r) (RewritesEitherWay q)
  RewritesEitherWay-within s t (inl h) = inl (Rewrites-within s t h)
  RewritesEitherWay-within s t (inr h) = inr (Rewrites-within t s h)

  pub Reduces-within : Within (Reduces r) (Reduces q)
  Reduces-within s t h = (h.0, Path-within (Rewrites r) (Rewrites q) Rewrites-within s h.0 t h.1)

  pub ReducesStrictly-within : Within (ReducesStrictly r) (ReducesStrictly q)
  ReducesStrictly-within s t h = (h.0, h.1, Path-within (Rewrites r) (Rewrites q) Rewrites-within s (h.0 ∷ h.1) t h.2)

  pub Converts-within : Within (Converts r) (Converts q)
  Converts-within s t h = (h.0, Path-within (RewritesEitherWay r) (RewritesEitherWay q) RewritesEitherWay-within s h.0 t h.1)

  pub RewritesInParallel-within : Within (RewritesInParallel r) (RewritesInParallel q)
  RewritesInParallel-within s t h = parallel-within w h

  pub IsNormalForm-within : (s : Tree) → IsNormalForm q s → IsNormalForm r s
  IsNormalForm-within s normal t h = normal t (Rewrites-within s t h)

-- Over a signature with a constant each pattern that fits has a ground instance.
use Rattle.std.specs.Prelude.{◌≡◌, suc, Some, refl}
use Rattle.std.proofs.Common.{ap, ◌∙◌}
use Rattle.fort_theory.specs.Trees.{Tree, Trees, Node, Nil, More, tree_count}
use Rattle.fort_theory.specs.Signatures.{Signature, IsGround, AreGround, HasConstant}
use Rattle.fort_theory.specs.Patterns.{Pattern, Patterns, Any, At, NoPattern, MorePatterns, IsInstance, AreInstances, pattern_count, FitsPattern, FitPatterns}

-- the pattern with a tree for each Any
abbrev mutual
  filled : Tree → Pattern → Tree
  filled t Any = t
  filled t (At f ps) = Node f (all_filled t ps)

  all_filled : Tree → Patterns → Trees
  all_filled t NoPattern = Nil
  all_filled t (MorePatterns p ps) = More (filled t p) (all_filled t ps)

mutual
  IsInstance-filled : (t : Tree) (p : Pattern) → IsInstance p (filled t p)
  IsInstance-filled t Any = tt
  IsInstance-filled t (At f ps) = (refl, AreInstances-all_filled t ps)

  AreInstances-all_filled : (t : Tree) (ps : Patterns) → AreInstances ps (all_filled t ps)
  AreInstances-all_filled t NoPattern = tt
  AreInstances-all_filled t (MorePatterns p ps) = (IsInstance-filled t p, AreInstances-all_filled t ps)

pub tree_count-AreInstances : (ps : Patterns) (ts : Trees) → AreInstances ps ts → pattern_count ps ≡ tree_count ts
tree_count-AreInstances NoPattern Nil h = refl
tree_count-AreInstances NoPattern (More t ts) h = absurd h
tree_count-AreInstances (MorePatterns p ps) Nil h = absurd h
tree_count-AreInstances (MorePatterns p ps) (More t ts) h = ap suc (tree_count-AreInstances ps ts h.1)

mutual
  IsGround-filled : (signature : Signature) (t : Tree) → IsGround signature t → (p : Pattern) → FitsPattern signature p → IsGround signature (filled t p)
  IsGround-filled signature t g Any h = g
  IsGround-filled signature t g (At f ps) h =
      (h.0 ∙ ap Some (tree_count-AreInstances ps (all_filled t ps) (AreInstances-all_filled t ps)), AreGround-all_filled signature t g ps h.1)

  AreGround-all_filled : (signature : Signature) (t : Tree) → IsGround signature t → (ps : Patterns) → FitPatterns signature ps
      → AreGround signature (all_filled t ps)
  AreGround-all_filled signature t g NoPattern h = tt
  AreGround-all_filled signature t g (MorePatterns p ps) h = (IsGround-filled signature t g p h.0, AreGround-all_filled signature t g ps h.1)

pub some-instance : (signature : Signature) → HasConstant signature → (p : Pattern) → FitsPattern signature p
    → (t : Tree) × IsGround signature t × IsInstance p t
some-instance signature constant p h =
    let t : Tree = Node constant.0 Nil in
    (filled t p, IsGround-filled signature t (constant.1, tt) p h, IsInstance-filled t p)

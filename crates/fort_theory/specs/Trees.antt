-- To believe: a tree is a number with a list of trees; its positions are lists of child numbers from 0.
use Rattle.std.specs.Prelude.{ℕ, zero, suc, max, List, [], ◌∷◌, Option, None, Some}

-- a node carries the number of its symbol and the list of its children
mutual
  pub data Tree : Type 0 where
    Node : (sym : ℕ) → (kids : Trees) → Tree

  pub data Trees : Type 0 where
    Nil : Trees
    More : (first : Tree) → (rest : Trees) → Trees

abbrev pub tree_count : Trees → ℕ
tree_count Nil = 0
tree_count (More t ts) = suc (tree_count ts)

-- the trees of a list, as the children of a node
abbrev pub trees : List Tree → Trees
trees [] = Nil
trees (t ∷ ts) = More t (trees ts)

-- 0 for a node without children, else one more than the greatest height of a child
abbrev mutual
  pub height : Tree → ℕ
  height (Node sym kids) = heights kids

  pub heights : Trees → ℕ
  heights Nil = 0
  heights (More t ts) = max (suc (height t)) (heights ts)

-- the subtree at a position
abbrev mutual
  pub subtree_at : Tree → List ℕ → Option Tree
  subtree_at t [] = Some t
  subtree_at (Node sym kids) (i ∷ p) = subtree_among kids i p

  pub subtree_among : Trees → ℕ → List ℕ → Option Tree
  subtree_among Nil i p = None
  subtree_among (More t ts) zero p = subtree_at t p
  subtree_among (More t ts) (suc i) p = subtree_among ts i p

-- the tree with another one at a position that it has
abbrev mutual
  pub replaced_at : Tree → List ℕ → Tree → Tree
  replaced_at t [] u = u
  replaced_at (Node sym kids) (i ∷ p) u = Node sym (replaced_among kids i p u)

  pub replaced_among : Trees → ℕ → List ℕ → Tree → Trees
  replaced_among Nil i p u = Nil
  replaced_among (More t ts) zero p u = More (replaced_at t p u) ts
  replaced_among (More t ts) (suc i) p u = More t (replaced_among ts i p u)

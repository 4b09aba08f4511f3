-- Law: a measure of trees that falls from a node to its children.
use Rattle.std.specs.Prelude.{ℕ, suc, ◌+◌, ◌≤◌, List, [], ◌∷◌}
use Rattle.std.proofs.Common.{arith}
use Rattle.fort_theory.specs.Trees.{Tree, Trees, Node, Nil, More, trees}
use denote.Param.Weighed.{most}

-- the number of nodes
abbrev mutual
  pub node_count : Tree → ℕ
  node_count (Node f ts) = suc (node_counts ts)

  pub node_counts : Trees → ℕ
  node_counts Nil = 0
  node_counts (More t ts) = node_count t + node_counts ts

pub most_below : (kids : List Tree) → most (λ k. node_count k + 1) kids ≤ node_counts (trees kids) + 1
most_below [] = omega arith
most_below (k ∷ ks) = omega (arith, most_below ks)

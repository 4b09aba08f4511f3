-- To believe: terms are equal when they have one symbol and equal children, and are ordered by their symbols and then by their children from left to right, a list of children before those that it begins.
use Rattle.std.specs.Prelude.{Bool, true, false, nat_eq, ◌&&◌, [], ◌++◌}
use Rattle.std.specs.Hash as fed
use Rattle.std.specs.declared.cmp.Ordering.{Ordering}
use Rattle.std.specs.declared.cmp.Ordering.TheVariants.{Less, Equal, Greater}
use Rattle.std.specs.Ordering.{nat_cmp, ordering_then}
use Rattle.fort_theory.specs.Trees.{Tree, Trees, Node, Nil, More, tree_count}

abbrev mutual
  pub tree_eq : Tree → Tree → Bool
  tree_eq (Node f ts) (Node g us) = nat_eq f g && trees_eq ts us

  pub trees_eq : Trees → Trees → Bool
  trees_eq Nil Nil = true
  trees_eq Nil (More u us) = false
  trees_eq (More t ts) Nil = false
  trees_eq (More t ts) (More u us) = tree_eq t u && trees_eq ts us

abbrev mutual
  pub tree_order : Tree → Tree → Ordering
  tree_order (Node f ts) (Node g us) = ordering_then (nat_cmp f g) (trees_order ts us)

  pub trees_order : Trees → Trees → Ordering
  trees_order Nil Nil = Equal
  trees_order Nil (More u us) = Less
  trees_order (More t ts) Nil = Greater
  trees_order (More t ts) (More u us) = ordering_then (tree_order t u) (trees_order ts us)

-- what a hasher is fed: the symbol, the number of children, each child
abbrev mutual
  pub tree_hash : Tree → fed.HashWrites
  tree_hash (Node f ts) = fed.u16 f ++ (fed.usize (tree_count ts) ++ trees_hash ts)

  pub trees_hash : Trees → fed.HashWrites
  trees_hash Nil = []
  trees_hash (More t ts) = tree_hash t ++ trees_hash ts

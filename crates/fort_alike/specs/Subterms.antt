-- To believe: the subterms of a term, itself among them, each as often as it stands there.
use Rattle.std.specs.Prelude.{List, [], ◌∷◌, ◌++◌}
use Rattle.fort_theory.specs.Trees.{Tree, Trees, Node, Nil, More}

-- a term before those of its children, from left to right
abbrev mutual
  pub subterms : Tree → List Tree
  subterms (Node f ss) = Node f ss ∷ subterms_among ss

  pub subterms_among : Trees → List Tree
  subterms_among Nil = []
  subterms_among (More s ss) = subterms s ++ subterms_among ss

-- To believe: the text of a term is a constant's name, or in parentheses a function's name and the arguments' texts, each behind one blank.
use Rattle.std.specs.Prelude.{ℕ, List, [], ◌++◌, get_or, codes}
use Rattle.fort_theory.specs.Trees.{Tree, Trees, Node, Nil, More}
use Rattle.fort_theory.specs.Signatures.{Signature, names_of}

abbrev mutual
  pub term_text : Signature → Tree → List ℕ
  term_text sig (Node f Nil) = get_or (names_of sig) f []
  term_text sig (Node f (More t ts)) = codes "(" ++ (get_or (names_of sig) f [] ++ (arguments_text sig (More t ts) ++ codes ")"))

  pub arguments_text : Signature → Trees → List ℕ
  arguments_text sig Nil = []
  arguments_text sig (More t ts) = codes " " ++ (term_text sig t ++ arguments_text sig ts)

-- Nothing to believe: a tree as a list of numbers, from which it is read again.
use Rattle.std.specs.Prelude.{◌≡◌, ℕ, zero, suc, List, [], ◌∷◌, ◌++◌, refl}
use Rattle.std.proofs.Common.{ap, sym, ◌∙◌, append_assoc, append-nil}
use Rattle.std.specs.Coded.{Coded, code_by, coded_list, coded_ℕ}
use Rattle.fort_theory.specs.Trees.{Tree, Trees, Node, Nil, More}

-- a node is its number and its children, each behind a 1, ended by a 0
abbrev mutual
  pub spelled : Tree → List ℕ
  spelled (Node f ts) = suc (suc f) ∷ all_spelled ts

  pub all_spelled : Trees → List ℕ
  all_spelled Nil = 0 ∷ []
  all_spelled (More t ts) = 1 ∷ (spelled t ++ all_spelled ts)

-- what stands on the stack of a reader that goes from the end to the front
pub data Item : Type 0 where
  One : Tree → Item
  Many : Trees → Item

abbrev pub joined : List Item → List Item
joined (One t ∷ Many ts ∷ rest) = Many (More t ts) ∷ rest
joined other = other

abbrev pub rooted : ℕ → List Item → List Item
rooted f (Many ts ∷ rest) = One (Node f ts) ∷ rest
rooted f other = other

abbrev pub read_back : List ℕ → List Item
read_back [] = []
read_back (zero ∷ xs) = Many Nil ∷ read_back xs
read_back (suc zero ∷ xs) = joined (read_back xs)
read_back (suc (suc f) ∷ xs) = rooted f (read_back xs)

abbrev pub first_tree : List Item → Tree
first_tree (One t ∷ rest) = t
first_tree other = Node 0 Nil

mutual
  pub read_back-spelled : (t : Tree) (xs : List ℕ) → read_back (spelled t ++ xs) ≡ One t ∷ read_back xs
  read_back-spelled (Node f ts) xs = ap (rooted f) (read_back-all ts xs)

  pub read_back-all : (ts : Trees) (xs : List ℕ) → read_back (all_spelled ts ++ xs) ≡ Many ts ∷ read_back xs
  read_back-all Nil xs = refl
  read_back-all (More t ts) xs =
      ap (λ ys. joined (read_back ys)) (append_assoc (spelled t) (all_spelled ts) xs)
      ∙ (ap joined (read_back-spelled t (all_spelled ts ++ xs)) ∙ ap (λ ys. joined (One t ∷ ys)) (read_back-all ts xs))

abbrev pub tree_of_code : List ℕ → Tree
tree_of_code xs = first_tree (read_back xs)

pub tree_again : (t : Tree) → tree_of_code (spelled t) ≡ t
tree_again t = ap (λ ys. first_tree (read_back ys)) (sym (append-nil (spelled t))) ∙ ap first_tree (read_back-spelled t [])

abbrev pub tree_code : Coded Tree
tree_code = code_by (List ℕ) (coded_list coded_ℕ) spelled tree_of_code tree_again

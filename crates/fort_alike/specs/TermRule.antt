-- To believe: the label of "the variable is this term": the presence, and the place, from 1, of the column's tree in a list of the term's subterms, or 0; how it comes from the symbol and the children's numbers.
use Rattle.std.specs.Prelude.{◌↔◌, ℕ, zero, suc, List, [], ◌∷◌, map, Contains, Option, None, Some, get_or, Bool, true, false, ◌==◌, ◌&&◌, if◌then◌else◌}
use Rattle.fort_theory.specs.Trees.{Tree, Trees, Node, Nil, More}
use Rattle.fort_theory.specs.Signatures.{Signature}
use Rattle.fort_tables.specs.Tuples.{presence}
use Rattle.fort_tables.specs.LabelRules.{LabelRule}
use Rattle.fort_alike.specs.AlikeAtTerm.{IsSubterm}

abbrev mutual
  pub same_tree : Tree → Tree → Bool
  same_tree (Node f ss) (Node g ts) = (f == g) && same_trees ss ts

  pub same_trees : Trees → Trees → Bool
  same_trees Nil Nil = true
  same_trees Nil (More t ts) = false
  same_trees (More s ss) Nil = false
  same_trees (More s ss) (More t ts) = same_tree s t && same_trees ss ts

-- one more, but 0 stays 0
abbrev pub one_further : ℕ → ℕ
one_further zero = 0
one_further (suc n) = suc (suc n)

-- a tree's first place in a list, counted from 1, or 0 where it isn't there
abbrev pub number_in : List Tree → Tree → ℕ
number_in [] v = 0
number_in (x ∷ xs) v = if same_tree x v then 1 else one_further (number_in xs v)

-- the list has the subterms of the term, in any order, repeats or not
abbrev pub ListsSubterms : Tree → List Tree → Type 0
ListsSubterms term listed = (v : Tree) → Contains listed v ↔ IsSubterm term v

-- the number of the tree that stands in a column
abbrev pub number_of : List Tree → Option Tree → ℕ
number_of listed None = 0
number_of listed (Some v) = number_in listed v

-- the numbers of some trees
abbrev pub numbers : List Tree → Trees → List ℕ
numbers listed Nil = []
numbers listed (More s ss) = number_in listed s ∷ numbers listed ss

-- the tree of a number; the trees of some numbers
abbrev pub numbered : List Tree → ℕ → Option Tree
numbered listed zero = None
numbered listed (suc i) = get_or (map Some listed) i None

abbrev pub put_first : Option Tree → Option Trees → Option Trees
put_first None ss = None
put_first (Some s) None = None
put_first (Some s) (Some ss) = Some (More s ss)

abbrev pub all_numbered : List Tree → List ℕ → Option Trees
all_numbered listed [] = Some Nil
all_numbered listed (n ∷ ns) = put_first (numbered listed n) (all_numbered listed ns)

-- the number of the node over these trees
abbrev pub number_over : List Tree → ℕ → Option Trees → ℕ
number_over listed f None = 0
number_over listed f (Some ss) = number_in listed (Node f ss)

-- by the symbol and the children's numbers; 0 where the column is absent or a child isn't listed
abbrev pub number_at : List Tree → Option ℕ → List ℕ → ℕ
number_at listed None ns = 0
number_at listed (Some f) ns = number_over listed f (all_numbered listed ns)

abbrev pub number_word : List ℕ → ℕ
number_word w = get_or w 1 0

abbrev pub term_rule : Signature → List Tree → LabelRule
term_rule sig listed = record {
  signature = sig;
  columns = 1;
  step = λ f ws. presence f ∷ number_at listed (get_or f 0 None) (map number_word ws) ∷ [];
}

-- the number is the term's; of a list that has the term
abbrev pub term_accepts : List Tree → Tree → List ℕ → Bool
term_accepts listed term w = number_word w == number_in listed term

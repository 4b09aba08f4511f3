-- To believe: when two optional tuples of one column are alike at "the variable is this term": the column is present in both or in neither, and the trees there equal the same subterm of that term, or both none.
use Rattle.std.specs.Prelude.{◌≡◌, ◌↔◌, ℕ, List, None, Some, get_or}
use Rattle.fort_theory.specs.Trees.{Tree, subtree_at}
use Rattle.fort_tables.specs.Tuples.{Tuple, presence}

-- the term itself is one of its subterms
abbrev pub IsSubterm : Tree → Tree → Type 0
IsSubterm term v = (position : List ℕ) × (subtree_at term position ≡ Some v)

pub record AlikeAtTerm (term : Tree) (t u : Tuple) : Type 0 where
  pub present : presence t ≡ presence u
  pub subterms : (v : Tree) → IsSubterm term v → (get_or t 0 None ≡ Some v) ↔ (get_or u 0 None ≡ Some v)

-- To believe: which numbers of listed trees the label of "the variable is this term" asks of child j: those of the trees that stand as child j of a listed tree with the root's symbol; and what is seen of a label.
use Rattle.std.specs.Prelude.{ℕ, zero, suc, List, [], ◌∷◌, length, Option, None, Some, get_or, Bool, false, ◌&&◌, ◌==◌, if◌then◌else◌}
use Rattle.std.specs.List.{list_any}
use Rattle.fort_theory.specs.Trees.{Tree, Trees, Node, Nil, More}
use Rattle.fort_tables.specs.Tuples.{TupleSymbol}
use Rattle.fort_tables.specs.BitRows.{has_bit, bit_row}
use Rattle.fort_alike.specs.TermRule.{same_tree, numbered, number_word}

-- child j is this tree
abbrev pub is_child : Tree → ℕ → Trees → Bool
is_child v j Nil = false
is_child v zero (More s ss) = same_tree s v
is_child v (suc j) (More s ss) = is_child v j ss

-- it is child j of the other one, whose root has this symbol
abbrev pub stands_below : Option ℕ → ℕ → Tree → Tree → Bool
stands_below None j v s = false
stands_below (Some f) j v (Node g ss) = (g == f) && is_child v j ss

abbrev pub asks_tree : List Tree → Option ℕ → ℕ → Option Tree → Bool
asks_tree listed x j None = false
asks_tree listed x j (Some v) = list_any (stands_below x j v) listed

abbrev pub asks_number : List Tree → Option ℕ → ℕ → ℕ → Bool
asks_number listed x j n = asks_tree listed x j (numbered listed n)

-- as bits; the number 0, of no tree, isn't asked
abbrev pub asked_numbers : List Tree → TupleSymbol → ℕ → List ℕ
asked_numbers listed f j = bit_row (suc (length listed)) (asks_number listed (get_or f 0 None) j)

-- the label's number where it is asked, else 0
abbrev pub number_seen : (seen label : List ℕ) → List ℕ
number_seen seen w = (if has_bit seen (number_word w) then number_word w else 0) ∷ []

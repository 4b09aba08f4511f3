-- Inside: the facts of an atom of an expression at a node, by their bits in the children's labels, whether the roots are one symbol, and whether there is a pair at the root.
use Rattle.std.specs.Prelude.{ℕ, ◌+◌, List, Bool, ◌&&◌, ◌||◌}
use Rattle.fort_alike.specs.AtomRules.{all_kids}
use Rattle.fort_alike.specs.ExpressionAlike.{PairFact, Same, Anywhere, Below}
use Rattle.fort_alike.specs.ExpressionRules.{fact_place, kids_test}
use Rattle.fort_label_bits.specs.RowBits.{bit_of}

-- the facts have the bits from this one on, in their order
abbrev pub fact_told : ℕ → List PairFact → PairFact → List ℕ → Bool
fact_told base facts k w = bit_of (base + fact_place facts k) w

abbrev pub fact_test : (PairFact → List ℕ → Bool) → (equal root : Bool) → List (List ℕ) → PairFact → Bool
fact_test bit equal root ws Same = equal && all_kids (bit Same) ws
fact_test bit equal root ws (Anywhere number) = root || (equal && kids_test bit number ws)
fact_test bit equal root ws (Below number) = equal && kids_test bit number ws

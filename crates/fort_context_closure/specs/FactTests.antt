-- To believe: the facts on two arguments at a node, by their bits in the children's labels, whether the roots are one symbol, and whether there is a root step.
use Rattle.std.specs.Prelude.{ℕ, ◌+◌, List, map, Bool, false, ◌&&◌, ◌||◌}
use Rattle.fort_alike.specs.Atoms.{AtomKind}
use Rattle.fort_alike.specs.Alike.{Fact, Same, Steps, StepsBelow, StepsInParallel, IsNormal, Goes, GoesStrictly, facts_of}
use Rattle.fort_alike.specs.ListedAtoms.{OfBoth}
use Rattle.fort_alike.specs.AtomRules.{place, all_kids, one_kid, some_kid}
use Rattle.fort_label_bits.specs.RowBits.{bit_of}

-- the facts of a kind have the bits from this one on, in their order
abbrev pub fact_bit : AtomKind → ℕ → Fact → List ℕ → Bool
fact_bit kind base k w = bit_of (base + place (map OfBoth (facts_of kind)) (OfBoth k)) w

abbrev pub fact_test : (Fact → List ℕ → Bool) → (equal root : Bool) → List (List ℕ) → Fact → Bool
fact_test bit equal root ws Same = equal && all_kids (bit Same) ws
fact_test bit equal root ws Steps = root || (equal && one_kid (bit Steps) (bit Same) ws)
fact_test bit equal root ws StepsBelow = equal && one_kid (bit Steps) (bit Same) ws
fact_test bit equal root ws StepsInParallel = root || (equal && all_kids (bit StepsInParallel) ws)
fact_test bit equal root ws IsNormal = false
fact_test bit equal root ws Goes = root || (equal && all_kids (bit Goes) ws)
fact_test bit equal root ws GoesStrictly = root || (equal && (all_kids (bit Goes) ws && some_kid (bit GoesStrictly) ws))

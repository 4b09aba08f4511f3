-- To believe: the rules of an index from left to right and then from right to left, as a system of one index.
use Rattle.std.specs.Prelude.{ℕ, List, [], ◌∷◌, ◌++◌, map}
use Rattle.fort_theory.specs.Sides.{at_index}
use Rattle.fort_theory.specs.Patterns.{Pair, PatternSystem}

abbrev pub exchanged : Pair → Pair
exchanged pair = (pair.1, pair.0)

abbrev pub both_ways : PatternSystem → ℕ → PatternSystem
both_ways system index =
    let rules : List Pair = at_index index system.rules in
    record { signature = system.signature; rules = (rules ++ map exchanged rules) ∷ [] }

-- Inside: a rule by the place of its left side in a list of patterns.
use Rattle.std.specs.Prelude.{◌≡◌, ◌<◌, ℕ, List, map, length, get_or, Contains, Bool}
use Rattle.std.specs.List.{list_any}
use Rattle.fort_theory.specs.Patterns.{Pattern, Any, Pair}
use Rattle.fort_label_bits.specs.RowBits.{bit_of}

-- a rule by the place of its left side; no label of normal forms reads the right side
abbrev pub side_at : List Pattern → ℕ → Pair
side_at lefts k = (get_or lefts k Any, Any)

abbrev pub AreSidesWithin : List Pattern → List ℕ → Type 0
AreSidesWithin lefts sides = (k : ℕ) → Contains sides k → k < length lefts

abbrev pub some_side : List ℕ → List ℕ → Bool
some_side sides w = list_any (λ k. bit_of k w) sides

-- the places are those of the left sides of these pairs
pub record AreSidesOf (lefts : List Pattern) (pairs : List Pair) (sides : List ℕ) : Type 0 where
  pub sides_are : map (λ k. get_or lefts k Any) sides ≡ map (λ (pair : Pair). pair.0) pairs
  pub within : AreSidesWithin lefts sides

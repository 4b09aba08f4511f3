-- Inside: texts behind one another, each behind a blank.
use Rattle.std.specs.Prelude.{ℕ, zero, suc, List, [], ◌∷◌, ◌++◌}

abbrev pub tails : List (List ℕ) → List ℕ
tails [] = []
tails (w ∷ ws) = 32 ∷ w ++ tails ws

-- in front of the element at a place
abbrev pub gap : ℕ → List ℕ
gap zero = []
gap (suc place) = 32 ∷ []

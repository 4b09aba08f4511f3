-- Inside: the labels of a list of states.
use Rattle.std.specs.Prelude.{ℕ, List, [], map, get_or}

-- the labels of these numbers
abbrev pub labels_at : List (List ℕ) → List ℕ → List (List ℕ)
labels_at labels qs = map (λ q. get_or labels q []) qs

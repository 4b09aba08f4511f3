-- Inside: numbers in pieces of one width, as lists.
use Rattle.std.specs.Prelude.{ℕ, zero, suc, List, [], ◌∷◌, take, drop}

-- the words in pieces of this width, n of them
abbrev pub pieces : ℕ → ℕ → List ℕ → List (List ℕ)
pieces width zero words = []
pieces width (suc n) words = take width words ∷ pieces width n (drop width words)

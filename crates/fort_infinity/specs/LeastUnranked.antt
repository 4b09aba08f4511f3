-- Inside: the least number of a list without a rank.
use Rattle.std.specs.Prelude.{ℕ, ◌==◌, min, List, [], ◌∷◌, get_or, if◌then◌else◌}

-- it, or another number that is less
abbrev pub least_from : (ℕ → ℕ) → ℕ → List ℕ → ℕ
least_from rank least [] = least
least_from rank least (k ∷ ks) = least_from rank (if rank k == 0 then min least k else least) ks

-- no state has a greater number
abbrev pub greatest_number : ℕ
greatest_number = 4294967295

-- the least child without a rank
abbrev pub least_child : List (List ℕ) → (ℕ → ℕ) → ℕ → ℕ
least_child children rank q = least_from rank greatest_number (get_or children q [])

-- To believe: the columns of a core formula are its free numbers, ascending; a number's place is its first place among them.
use Rattle.std.specs.Prelude.{ℕ, suc, max, ◌==◌, List, map, filter}
use Rattle.std.specs.List.{range_with_len, position_or_len}
use Rattle.fort_theory.specs.Cores.{Atom, Related, InContext, Normal, IsTerm, Core, True, Leaf, Not, Binary, Exists, Infinite}
use Rattle.fort_theory.specs.Parts.{is_free}

-- one more than the atom's greatest number
abbrev pub numbers_in : Atom → ℕ
numbers_in (Related rel index x y) = max (suc x) (suc y)
numbers_in (InContext e number place x y) = max (suc x) (suc y)
numbers_in (Normal index x) = suc x
numbers_in (IsTerm x t) = suc x

-- one more than the greatest number of an atom, free or not, and so above each free number
abbrev pub numbers_below : Core → ℕ
numbers_below True = 0
numbers_below (Leaf a) = numbers_in a
numbers_below (Not f) = numbers_below f
numbers_below (Binary op f g) = max (numbers_below f) (numbers_below g)
numbers_below (Exists n f) = numbers_below f
numbers_below (Infinite n f) = numbers_below f

abbrev pub columns_of : Core → List ℕ
columns_of f = filter (λ n. is_free n f) (range_with_len 0 (numbers_below f))

abbrev pub place_in : List ℕ → ℕ → ℕ
place_in columns n = position_or_len (λ m. m == n) columns

-- the places of some numbers
abbrev pub places_in : List ℕ → List ℕ → List ℕ
places_in columns ns = map (place_in columns) ns

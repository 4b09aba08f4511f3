-- Inside: the first number of a list that is above a bound.
use Rattle.std.specs.Prelude.{ℕ, ltb, if◌then◌else◌, List, [], ◌∷◌, Option, None, Some}

abbrev pub first_above : ℕ → List ℕ → Option ℕ
first_above bound [] = None
first_above bound (x ∷ xs) = if ltb bound x then Some x else first_above bound xs

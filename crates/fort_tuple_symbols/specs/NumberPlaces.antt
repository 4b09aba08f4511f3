-- Inside: the places of numbers in a list.
use Rattle.std.specs.Prelude.{◌≡◌, ℕ, ◌+◌, ◌-◌, ◌<◌, ◌≤◌, ◌^◌, List, length, get_or, ◌==◌}
use Rattle.std.specs.List.{position_or_len}
use Rattle.fort_tables.specs.Tuples.{tabulate}

-- the numbers of a list of this length, by their places: for each number one more than its place, or 0
abbrev pub numbers_in : ℕ → List ℕ → List ℕ
numbers_in count places = tabulate count (λ q. position_or_len (λ p. p == q + 1) places)

-- for each number up to the greatest of the list, and some more, one more than its place there, or 0
pub record ArePlaces (numbers places : List ℕ) : Type 0 where
  pub small : length places ≤ 2 ^ 27
  pub within : (q : ℕ) → q < length numbers → get_or numbers q 0 < length places
  pub place : (q : ℕ) → q < length numbers → get_or places (get_or numbers q 0) 0 ≡ q + 1
  pub inside : (n : ℕ) → n < length places → get_or places n 0 ≤ length numbers
  pub number : (n : ℕ) → n < length places → 0 < get_or places n 0 → get_or numbers (get_or places n 0 - 1) 0 ≡ n

-- To believe: lists of digits in the order in which they came, with the base and the length that they are to have.
use Rattle.std.specs.Prelude.{ℕ, List}

pub record Symbols : Type 0 where
  pub base : ℕ
  pub columns : ℕ
  pub digits : List (List ℕ)

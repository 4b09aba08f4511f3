-- Inside: sparse rows are a list of labels of one width, with room for some; at most for so many, of so many words together.
use Rattle.std.specs.Prelude.{ℕ, List}

pub record SparseLabels : Type 0 where
  pub width : ℕ
  pub room : ℕ
  pub most : ℕ
  pub space : ℕ
  pub labels : List (List ℕ)

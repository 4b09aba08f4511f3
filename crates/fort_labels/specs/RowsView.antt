-- To believe: rows are a list of labels of one width, with room for some, in space for so many words.
use Rattle.std.specs.Prelude.{ℕ, List}

pub record Labels : Type 0 where
  pub width : ℕ
  pub room : ℕ
  pub space : ℕ
  pub labels : List (List ℕ)

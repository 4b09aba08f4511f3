-- To believe: which variable is the first that is met again in a list, and which is the first of a list that stands in another list too.
use Rattle.std.specs.Prelude.{◌≡◌, ℕ, List, ◌∷◌, ◌++◌, Contains, nat_eq}
use Rattle.std.specs.List.{IsDistinct}

-- v is met again, and nothing is before that
pub record IsFirstRepeated (vs : List ℕ) (v : ℕ) : Type 0 where
  pub before : List ℕ
  pub after : List ℕ
  pub stands : vs ≡ before ++ v ∷ after
  pub again : Contains before v
  pub distinct : IsDistinct nat_eq before

-- v stands in both lists, and what is before it in the first doesn't stand in the second
pub record IsFirstShared (vs ws : List ℕ) (v : ℕ) : Type 0 where
  pub before : List ℕ
  pub after : List ℕ
  pub stands : vs ≡ before ++ v ∷ after
  pub shared : Contains ws v
  pub apart : (w : ℕ) → Contains before w → Contains ws w → ⊥

-- To believe: what it is to take each value of a list once, at its first place.
use Rattle.std.specs.Prelude.{◌≡◌, ◌↔◌, List, ◌∷◌, ◌++◌, Contains}

-- x stands in the list, and y behind it
pub record StandsBefore {A : Type 0} (xs : List A) (x y : A) : Type 0 where
  pub front : List A
  pub back : List A
  pub split : xs ≡ front ++ (x ∷ back)
  pub behind : Contains back y

-- x stands in the list, and no y before it
pub record StandsBeforeAll {A : Type 0} (xs : List A) (x y : A) : Type 0 where
  pub front : List A
  pub back : List A
  pub split : xs ≡ front ++ (x ∷ back)
  pub none : Contains front y → ⊥

-- ys has the values of xs, each once, in the order of their first places in xs
pub record AreEachOnce {A : Type 0} (xs ys : List A) : Type 0 where
  pub same : (x : A) → Contains xs x ↔ Contains ys x
  pub distinct : (x : A) → StandsBefore ys x x → ⊥
  pub ordered : (x y : A) → StandsBefore ys x y → StandsBeforeAll xs x y

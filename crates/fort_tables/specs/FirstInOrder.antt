-- To believe: the first elements with a property in an order, each once: all of them, or as many as are wanted where there are more.
use Rattle.std.specs.Prelude.{◌≡◌, ℕ, ◌<◌, ◌≤◌, ◌⊎◌, Bool, true, All, Contains, List, length, get_or}

-- there are as many as are wanted, and it comes after them all
pub record ComesAfterAll {A : Type 0} (Before : A → A → Type 0) (most : ℕ) (xs : List A) (y : A) : Type 0 where
  pub count : length xs ≡ most
  pub after : All (λ x. Before x y) xs

-- with the property, ascending, no more than are wanted; any other one with it comes after all of these, which are then as many as are
-- wanted, and there is such a one exactly where `more` is true
pub record AreFirstInOrder {A : Type 0} (Before : A → A → Type 0) (P : A → Type 0) (most : ℕ) (xs : List A) (more : Bool) : Type 0 where
  pub are : All P xs
  pub rise : (i j : ℕ) (d : A) → i < j → j < length xs → Before (get_or xs i d) (get_or xs j d)
  pub few : length xs ≤ most
  pub others : (y : A) → P y → Contains xs y ⊎ ((more ≡ true) × ComesAfterAll Before most xs y)
  pub more_are : more ≡ true → (y : A) × P y × ComesAfterAll Before most xs y

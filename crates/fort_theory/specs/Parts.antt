-- To believe: the parts of a core formula, their columns, when it is too wide (by columns, or by the root steps of an expression), and what deciding asks of its binders and widths.
use Rattle.std.specs.Prelude.{◌≡◌, ◌↔◌, ℕ, ◌<◌, Bool, true, false, not, ◌||◌, ◌&&◌, ◌==◌, List, [], ◌∷◌, ◌++◌, ◌⊎◌, length, Contains}
use Rattle.std.specs.List.Sorted.{IsStrictlyIncreasing}
use Rattle.fort_theory.specs.Signatures.{most_columns}
use Rattle.fort_theory.specs.Expressions.{HasManyRoots}
use Rattle.fort_theory.specs.Cores.{Atom, Related, InContext, Normal, IsTerm, Core, True, Leaf, Not, Binary, Exists, Infinite}

-- the subformulas, operands before their formula, from left to right; each as often as it stands there
abbrev pub postorder : Core → List Core
postorder True = True ∷ []
postorder (Leaf a) = Leaf a ∷ []
postorder (Not f) = postorder f ++ Not f ∷ []
postorder (Binary op f g) = postorder f ++ (postorder g ++ Binary op f g ∷ [])
postorder (Exists n f) = postorder f ++ Exists n f ∷ []
postorder (Infinite n f) = postorder f ++ Infinite n f ∷ []

-- the number is one of the atom's
abbrev pub stands_in : ℕ → Atom → Bool
stands_in n (Related rel index x y) = (x == n) || (y == n)
stands_in n (InContext e number place x y) = (x == n) || (y == n)
stands_in n (Normal index x) = x == n
stands_in n (IsTerm x t) = x == n

-- the number is free in the formula
abbrev pub is_free : ℕ → Core → Bool
is_free n True = false
is_free n (Leaf a) = stands_in n a
is_free n (Not f) = is_free n f
is_free n (Binary op f g) = is_free n f || is_free n g
is_free n (Exists x f) = not (x == n) && is_free n f
is_free n (Infinite x f) = not (x == n) && is_free n f

-- the columns of a formula: its free numbers, ascending
pub record AreColumns (f : Core) (columns : List ℕ) : Type 0 where
  pub ascending : IsStrictlyIncreasing columns
  pub free : (n : ℕ) → Contains columns n ↔ (is_free n f ≡ true)

-- it has more columns than a tuple may have
pub record HasManyColumns (f : Core) : Type 0 where
  pub columns : List ℕ
  pub are_columns : AreColumns f columns
  pub many : most_columns < length columns

-- the atom is by an expression of too many root steps
abbrev pub HasManyRootsIn : Atom → Type 0
HasManyRootsIn (Related rel index x y) = ⊥
HasManyRootsIn (InContext e number place x y) = HasManyRoots e
HasManyRootsIn (Normal index x) = ⊥
HasManyRootsIn (IsTerm x t) = ⊥

-- the formula is such an atom
abbrev pub HasManyRootsAt : Core → Type 0
HasManyRootsAt True = ⊥
HasManyRootsAt (Leaf a) = HasManyRootsIn a
HasManyRootsAt (Not f) = ⊥
HasManyRootsAt (Binary op f g) = ⊥
HasManyRootsAt (Exists n f) = ⊥
HasManyRootsAt (Infinite n f) = ⊥

-- some part has too many columns, or too many root steps
pub record IsTooWide (f : Core) : Type 0 where
  pub part : Core
  pub among : Contains (postorder f) part
  pub wide : HasManyColumns part ⊎ HasManyRootsAt part

-- each binder's number is free in its body
abbrev pub BindsFree : Core → Type 0
BindsFree True = Unit {0}
BindsFree (Leaf a) = Unit {0}
BindsFree (Not f) = BindsFree f
BindsFree (Binary op f g) = BindsFree f × BindsFree g
BindsFree (Exists n f) = (is_free n f ≡ true) × BindsFree f
BindsFree (Infinite n f) = (is_free n f ≡ true) × BindsFree f

-- what deciding asks of a core formula, but for its indices and terms
pub record IsWellFormed (f : Core) : Type 0 where
  pub binders : BindsFree f
  pub narrow : IsTooWide f → ⊥

-- no number is free in it
abbrev pub IsClosed : Core → Type 0
IsClosed f = (n : ℕ) → is_free n f ≡ true → ⊥

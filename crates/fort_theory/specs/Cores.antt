-- To believe: core formulas: formulas with numbers for variables, and fewer words than those that a user can write.
use Rattle.std.specs.Prelude.{ℕ}
use Rattle.fort_theory.specs.Trees.{Tree}
use Rattle.fort_theory.specs.Logic.{Connective}
use Rattle.fort_theory.specs.Expressions.{Expression}
use Rattle.fort_theory.specs.Contexts.{HoleNumber, HolePlace}

-- equal; a root step; a step below the root; a step; a parallel step; at least one step; any number of steps; a conversion
pub data Rel : Type 0 where
  Eq : Rel
  Root : Rel
  Below : Rel
  Step : Rel
  Par : Rel
  Plus : Rel
  Star : Rel
  Conv : Rel

-- x and y are related by the rules of an index (the translation gives Eq the index 1); x and y are related by an expression, in a
-- context with so many holes at such places; x is a normal form by the rules of an index; the value of x is this term
pub data Atom : Type 0 where
  Related : Rel → (index x y : ℕ) → Atom
  InContext : Expression → HoleNumber → HolePlace → (x y : ℕ) → Atom
  Normal : (index x : ℕ) → Atom
  IsTerm : (x : ℕ) → Tree → Atom

pub data Core : Type 0 where
  True : Core
  Leaf : Atom → Core
  Not : Core → Core
  Binary : Connective → Core → Core → Core
  Exists : ℕ → Core → Core
  Infinite : ℕ → Core → Core

-- To believe: when an atom of an expression holds of two terms: they are one context with pairs of the relation in its holes, which has so many holes, at such places.
use Rattle.std.specs.Prelude.{◌≡◌, ◌≢◌, ℕ, ◌+◌, ◌≤◌, ◌⊎◌}
use Rattle.fort_theory.specs.Trees.{Tree, Trees, Node, Nil, More}
use Rattle.fort_theory.specs.Rewriting.{Relation}

-- a term with holes
mutual
  pub data Context : Type 0 where
    Hole : Context
    Over : (sym : ℕ) → (kids : Contexts) → Context

  pub data Contexts : Type 0 where
    NoContext : Contexts
    MoreContexts : (first : Context) → (rest : Contexts) → Contexts

abbrev mutual
  pub hole_count : Context → ℕ
  hole_count Hole = 1
  hole_count (Over f cs) = hole_counts cs

  pub hole_counts : Contexts → ℕ
  hole_counts NoContext = 0
  hole_counts (MoreContexts c cs) = hole_count c + hole_counts cs

-- the two terms are the context with the first and with the second trees of pairs of the relation in its holes
abbrev mutual
  pub Fills : Relation → Context → Relation
  Fills r Hole s t = r s t
  Fills r (Over f cs) (Node g ss) (Node h ts) = (f ≡ g) × (f ≡ h) × AllFill r cs ss ts

  pub AllFill : Relation → Contexts → Trees → Trees → Type 0
  AllFill r NoContext Nil Nil = Unit {0}
  AllFill r NoContext Nil (More t ts) = ⊥
  AllFill r NoContext (More s ss) ts = ⊥
  AllFill r (MoreContexts c cs) Nil ts = ⊥
  AllFill r (MoreContexts c cs) (More s ss) Nil = ⊥
  AllFill r (MoreContexts c cs) (More s ss) (More t ts) = Fills r c s t × AllFill r cs ss ts

pub data HoleNumber : Type 0 where
  OneHole : HoleNumber
  SomeHoles : HoleNumber
  AnyHoles : HoleNumber

pub data HolePlace : Type 0 where
  AtTheRoot : HolePlace
  BelowTheRoot : HolePlace
  AnyPlace : HolePlace

-- one; at least one; any number
abbrev pub IsHoleNumber : HoleNumber → ℕ → Type 0
IsHoleNumber OneHole n = n ≡ 1
IsHoleNumber SomeHoles n = 1 ≤ n
IsHoleNumber AnyHoles n = Unit {0}

-- the context is a hole, or has no holes (which a number of one or some rules out); it is not a hole; any context
abbrev pub IsAtPlace : HolePlace → Context → Type 0
IsAtPlace AtTheRoot c = (c ≡ Hole) ⊎ (hole_count c ≡ 0)
IsAtPlace BelowTheRoot c = c ≢ Hole
IsAtPlace AnyPlace c = Unit {0}

-- the atom of a relation
pub record HoldsInContext (r : Relation) (number : HoleNumber) (place : HolePlace) (s t : Tree) : Type 0 where
  pub context : Context
  pub number_is : IsHoleNumber number (hole_count context)
  pub place_is : IsAtPlace place context
  pub fills : Fills r context s t

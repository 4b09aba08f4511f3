-- To believe: when two optional tuples are alike at a core formula, over its columns, also by another likeness at its operands; by a likeness a part is over a cap where there are more tuples than it, no two of them alike.
use Rattle.std.specs.Prelude.{ℕ, ◌<◌, List, length, get_or}
use Rattle.fort_theory.specs.Patterns.{PatternSystem}
use Rattle.fort_theory.specs.Cores.{Core, True, Leaf, Not, Binary, Exists, Infinite}
use Rattle.fort_alike.specs.AlikeAtAtom.{AlikeAtAtom}
use Rattle.fort_alike.specs.UnlikeTuples.{IsOver}
use Rattle.fort_tables.specs.Agreement.{Agreement, AgreeAtBoth, AgreeAtSome}
use Rattle.fort_tables.specs.ManyAgreement.{AgreeAtMany}
use Rattle.fort_parts.specs.PartColumns.{columns_of, place_in, places_in}

-- a formula without columns has no tuples
abbrev pub AlikeAt : PatternSystem → Core → Agreement
AlikeAt system True t u = Unit {0}
AlikeAt system (Leaf a) t u = AlikeAtAtom system a (columns_of (Leaf a)) t u
AlikeAt system (Not f) t u = AlikeAt system f t u
AlikeAt system (Binary op f g) t u =
    AgreeAtBoth (places_in (columns_of (Binary op f g)) (columns_of f)) (AlikeAt system f) (places_in (columns_of (Binary op f g)) (columns_of g)) (AlikeAt system g) t u
AlikeAt system (Exists n f) t u = AgreeAtSome system.signature (place_in (columns_of f) n) (AlikeAt system f) t u
AlikeAt system (Infinite n f) t u = AgreeAtMany system.signature (place_in (columns_of f) n) (AlikeAt system f) t u

-- the same with any likeness at the operands in the place of this one
abbrev pub AlikeBy : PatternSystem → (Core → Agreement) → Core → Agreement
AlikeBy system like True t u = Unit {0}
AlikeBy system like (Leaf a) t u = AlikeAt system (Leaf a) t u
AlikeBy system like (Not f) t u = like f t u
AlikeBy system like (Binary op f g) t u =
    AgreeAtBoth (places_in (columns_of (Binary op f g)) (columns_of f)) (like f) (places_in (columns_of (Binary op f g)) (columns_of g)) (like g) t u
AlikeBy system like (Exists n f) t u = AgreeAtSome system.signature (place_in (columns_of f) n) (like f) t u
AlikeBy system like (Infinite n f) t u = AgreeAtMany system.signature (place_in (columns_of f) n) (like f) t u

-- by a likeness at the formula itself; without columns it is never over a cap
pub record IsOverBy (system : PatternSystem) (like : Core → Agreement) (f : Core) (cap : ℕ) : Type 0 where
  pub some : 0 < length (columns_of f)
  pub over : IsOver system.signature (length (columns_of f)) (like f) cap

-- part k is over the cap, and none before it is
pub record IsFirstOverBy (system : PatternSystem) (like : Core → Agreement) (parts : List Core) (cap k : ℕ) : Type 0 where
  pub within : k < length parts
  pub over : IsOverBy system like (get_or parts k True) cap
  pub before : (j : ℕ) → j < k → IsOverBy system like (get_or parts j True) cap → ⊥

-- by when tuples are alike
abbrev pub IsPartOver : PatternSystem → Core → ℕ → Type 0
IsPartOver system f cap = IsOverBy system (AlikeAt system) f cap

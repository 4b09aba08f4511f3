-- To believe: what deciding asks of a core formula over a system: it is well-formed, its indices are the system's, its terms are ground, the rules that its expressions speak of are few enough for numbers of 32 bits; and what the operands of a formula are.
use Rattle.std.specs.Prelude.{◌≡◌, ◌⊎◌, ℕ, ◌<◌, ◌^◌, List, length, map, Contains}
use Rattle.fort_theory.specs.Signatures.{IsGround}
use Rattle.fort_theory.specs.Patterns.{Pattern, Pair, PatternSystem}
use Rattle.fort_theory.specs.PatternOrder.{AreSubpatternsInOrder}
use Rattle.fort_theory.specs.Sides.{IsIndexOf, at_index}
use Rattle.fort_theory.specs.Expressions.{Expression, root_indices}
use Rattle.fort_theory.specs.Cores.{Atom, Related, InContext, Normal, IsTerm, Core, True, Leaf, Not, Binary, Exists, Infinite}
use Rattle.fort_theory.specs.Parts.{IsWellFormed}

-- these rules, and the different patterns within either of their sides, are so few that 32 times as many, one for each root step that
-- an expression may have, have numbers of 32 bits
pub record AreFewRules (pairs : List Pair) : Type 0 where
  pub rules : length pairs < 2 ^ 26
  pub lefts : (ps : List Pattern) → AreSubpatternsInOrder (map (λ (pair : Pair). pair.0) pairs) ps → length ps < 2 ^ 26
  pub rights : (ps : List Pattern) → AreSubpatternsInOrder (map (λ (pair : Pair). pair.1) pairs) ps → length ps < 2 ^ 26

-- of each root step, the index is one of the system's, and the rules of the index are few
pub record IsExpressionOver (system : PatternSystem) (e : Expression) : Type 0 where
  pub indices : (index : ℕ) → Contains (root_indices e) index → IsIndexOf system.rules index
  pub few : (index : ℕ) → Contains (root_indices e) index → AreFewRules (at_index index system.rules)

-- its index is one of the system's, its expression is over the system, its term is ground
abbrev pub IsAtomOver : PatternSystem → Atom → Type 0
IsAtomOver system (Related rel index x y) = IsIndexOf system.rules index
IsAtomOver system (InContext e number place x y) = IsExpressionOver system e
IsAtomOver system (Normal index x) = IsIndexOf system.rules index
IsAtomOver system (IsTerm x term) = IsGround system.signature term

-- each atom is so
abbrev pub IsOverSystem : PatternSystem → Core → Type 0
IsOverSystem system True = Unit {0}
IsOverSystem system (Leaf a) = IsAtomOver system a
IsOverSystem system (Not f) = IsOverSystem system f
IsOverSystem system (Binary op f g) = IsOverSystem system f × IsOverSystem system g
IsOverSystem system (Exists n f) = IsOverSystem system f
IsOverSystem system (Infinite n f) = IsOverSystem system f

pub record IsDecided (system : PatternSystem) (f : Core) : Type 0 where
  pub well_formed : IsWellFormed f
  pub over : IsOverSystem system f

-- g stands in h at once
abbrev pub IsOperandOf : Core → Core → Type 0
IsOperandOf g True = ⊥
IsOperandOf g (Leaf a) = ⊥
IsOperandOf g (Not f) = g ≡ f
IsOperandOf g (Binary op f h) = (g ≡ f) ⊎ (g ≡ h)
IsOperandOf g (Exists n f) = g ≡ f
IsOperandOf g (Infinite n f) = g ≡ f

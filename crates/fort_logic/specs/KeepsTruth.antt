-- To believe: when a core formula keeps the truth of a formula: each number of a free name having that name's tree, both are true of the same trees; where the formula says SN, over right-ground rules and of ground terms alone.
use Rattle.std.specs.Prelude.{◌≡◌, ◌↔◌, ℕ, List, Some, slice_get, Contains, All}
use Rattle.fort_theory.specs.Trees.{Tree}
use Rattle.fort_theory.specs.Signatures.{HasConstant, IsGround}
use Rattle.fort_theory.specs.Sides.{System}
use Rattle.fort_theory.specs.RightGround.{IsRightGroundAt}
use Rattle.fort_theory.specs.Structures.{structure_of}
use Rattle.fort_logic.specs.Truth.{Assignment, IsGroundAssignment, GivesTerms, Holds}
use Rattle.fort_logic.specs.Formulas.{Name, Var, Formula}
use Rattle.fort_logic.specs.FreeNames.{free_names}
use Rattle.fort_logic.specs.Terminations.{terminations}
use Rattle.fort_theory.specs.Cores.{Core}
use Rattle.fort_theory.specs.CoreTruth.{Places, IsMetBy}

-- each free name has its tree at its number
abbrev pub AreTheirPlaces : Formula → Assignment → Places → Type 0
AreTheirPlaces f m v = (n : ℕ) (x : Name) → slice_get (free_names f) n ≡ Some x → v n ≡ m (Var x)

-- for each index of an SN, its rules are right-ground and the trees are ground terms; where there is no SN, this asks nothing
abbrev pub SuitsTerminations : System → Formula → Assignment → Type 0
SuitsTerminations system f m =
    (index : ℕ) → Contains (terminations f) index → IsRightGroundAt system index × IsGroundAssignment (structure_of system) m

-- where these terms are written in the formula: over every system with a constant that has all their symbols, both are true
-- of the same trees
abbrev pub KeepsTruth : List Tree → Formula → Core → Type 0
KeepsTruth terms f c = (system : System) → HasConstant system.signature → All (IsGround system.signature) terms
    → (m : Assignment) (v : Places) → SuitsTerminations system f m → GivesTerms terms m → AreTheirPlaces f m v
    → Holds (structure_of system) f m ↔ IsMetBy (structure_of system) c v

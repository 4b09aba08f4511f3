-- To believe: which terms satisfy a formula over a system, which of them are the least, and how terms are printed with the names of variables.
use Rattle.std.specs.Prelude.{◌≡◌, ℕ, List, [], ◌∷◌, ◌++◌, map, Some, codes}
use Rattle.fort_theory.specs.Trees.{Tree}
use Rattle.fort_theory.specs.Signatures.{Signature}
use Rattle.fort_theory.specs.Sides.{System}
use Rattle.fort_logic.specs.Formulas.{Name, Formula, Var}
use Rattle.fort_logic.specs.FreeNames.{free_names}
use Rattle.fort_theory.specs.Structures.{structure_of}
use Rattle.fort_logic.specs.Truth.{Assignment, IsGroundAssignment, GivesTerms, Holds}
use Rattle.fort_tables.specs.TupleOrder.{NotAfter}
use Rattle.fort_tables.specs.TermText.{term_text}

-- the trees of the free names, in the order of their first free occurrences
abbrev pub free_trees : Formula → Assignment → List Tree
free_trees f m = map (λ x. m (Var x)) (free_names f)

-- some ground terms satisfy the formula, and these are those of its free names
pub record AreWitnesses (system : System) (terms : List Tree) (f : Formula) (ts : List Tree) : Type 0 where
  pub assignment : Assignment
  pub grounded : IsGroundAssignment (structure_of system) assignment
  pub given : GivesTerms terms assignment
  pub holds : Holds (structure_of system) f assignment
  pub are : ts ≡ free_trees f assignment

-- and they come before all others
pub record AreLeastWitnesses (system : System) (terms : List Tree) (f : Formula) (ts : List Tree) : Type 0 where
  pub are : AreWitnesses system terms f ts
  pub least : (us : List Tree) → AreWitnesses system terms f us → NotAfter (map Some ts) (map Some us)

-- a name with its term
abbrev pub binding : Signature → Name → Tree → List ℕ
binding sig x t = x ++ (codes " = " ++ term_text sig t)

-- a line for each name with its term
abbrev pub bindings : Signature → List Name → List Tree → List ℕ
bindings sig [] ts = []
bindings sig (x ∷ xs) [] = []
bindings sig (x ∷ xs) (t ∷ ts) = (binding sig x t ++ 10 ∷ []) ++ bindings sig xs ts

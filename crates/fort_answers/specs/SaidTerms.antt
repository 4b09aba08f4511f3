-- To believe: what is said of an open formula over the bytes of a problem: the least terms that satisfy it, some that do, the first ones up to a height, or that there are none.
use Rattle.std.specs.Prelude.{◌≡◌, ◌⊎◌, ℕ, Bool, List, ◌∷◌, [], ◌++◌, length, codes, decimal}
use Rattle.fort_theory.specs.Trees.{Tree}
use Rattle.fort_theory.specs.Sides.{System}
use Rattle.fort_logic.specs.Formulas.{Formula}
use Rattle.fort_logic.specs.FreeNames.{free_names}
use Rattle.fort_tables.specs.FirstInOrder.{AreFirstInOrder}
use Rattle.fort_answers.specs.Said.{SaysFalse}
use Rattle.fort_answers.specs.Witnesses.{AreWitnesses, AreLeastWitnesses, bindings}
use Rattle.fort_answers.specs.SolutionTerms.{AreSolutionTerms, TermsBefore, count_line, solution_lines}

-- the text names the least terms that satisfy the formula
abbrev pub SaysLeastTerms : (text : List ℕ) → System → List Tree → Formula → Type 0
SaysLeastTerms text system terms f =
    (ts : List Tree) × AreLeastWitnesses system terms f ts
    × (text ≡ (codes "WITNESS" ++ 10 ∷ []) ++ bindings system.signature (free_names f) ts)

-- it names some that do, or says that none do
abbrev pub SaysConfirmed : (text : List ℕ) → System → List Tree → Formula → Type 0
SaysConfirmed text system terms f =
    ((ts : List Tree) × AreWitnesses system terms f ts
    × (text ≡ (codes "CERTIFIED WITNESS" ++ 10 ∷ []) ++ bindings system.signature (free_names f) ts))
    ⊎ SaysFalse (codes "CERTIFIED NONE") text system terms f

-- it lists the first ones up to the height that these digits write, and says whether there are more
pub record SaysFirstTerms (digits text : List ℕ) (system : System) (terms : List Tree) (f : Formula) : Type 0 where
  pub height : ℕ
  pub is_height : digits ≡ decimal height
  pub most : ℕ
  pub solutions : List (List Tree)
  pub more : Bool
  pub first : AreFirstInOrder TermsBefore (AreSolutionTerms system terms f height) most solutions more
  pub is : text ≡ count_line (length solutions) more ++ solution_lines system.signature (free_names f) solutions

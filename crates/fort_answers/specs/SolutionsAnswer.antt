-- To believe: what `solutions` asks of an open formula over an input, and what it says: the first terms up to a height for its free variables that satisfy it, in the order of tuples, and whether there are more.
use Rattle.std.specs.Prelude.{ℕ, Bool, List, [], ◌∷◌, ◌++◌, length, Some}
use Rattle.fort_theory.specs.Trees.{Tree}
use Rattle.fort_theory.specs.Sides.{System}
use Rattle.fort_logic.specs.Formulas.{Formula}
use Rattle.fort_logic.specs.FreeNames.{free_names}
use Rattle.fort_tables.specs.FirstInOrder.{AreFirstInOrder}
use Rattle.fort_answers.specs.Requests.{Text, Options, Bounds}
use Rattle.fort_answers.specs.Lines.{positive, negative}
use Rattle.fort_answers.specs.FormulaAnswer.{Open}
use Rattle.fort_answers.specs.InputAnswer.{Nothing}
use Rattle.fort_answers.specs.SystemAnswer.{Are, Inquiry}
use Rattle.fort_answers.specs.SolutionTerms.{AreSolutionTerms, TermsBefore, count_line, solution_lines}

-- where there are none, the status is that of NO
abbrev pub status_of : List (List Tree) → ℕ
status_of [] = negative
status_of (ts ∷ tss) = positive

-- the first terms up to the height that satisfy the formula are printed, and whether there are more
pub record SolutionsVerdict (bounds : Bounds) (system : System) (terms : List Tree) (f : Formula) (status : ℕ) (text : Text) : Type 0 where
  pub solutions : List (List Tree)
  pub more : Bool
  pub first : AreFirstInOrder TermsBefore (AreSolutionTerms system terms f bounds.height) bounds.most solutions more
  pub are : Are status text (status_of solutions) (count_line (length solutions) more ++ solution_lines system.signature (free_names f) solutions)

-- what `solutions` asks of an open formula
abbrev pub solutions_inquiry : Options → Bounds → (formula : Text) → Inquiry
solutions_inquiry options bounds formula =
    record {
      formula = formula;
      openness = Open;
      tail = Nothing;
      options = Some options;
      says = λ system behind terms f status text. SolutionsVerdict bounds system terms f status text;
    }

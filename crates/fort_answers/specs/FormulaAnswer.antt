-- To believe: when the text of a formula is accepted before anything is read, by a command that takes any formula, only closed ones or only open ones, and which line refuses one.
use Rattle.std.specs.Prelude.{◌≡◌, ℕ, List, [], ◌∷◌}
use Rattle.fort_logic.specs.Formulas.{Name, Formula}
use Rattle.fort_logic.specs.FreeNames.{free_names}
use Rattle.fort_logic.specs.Translation.{IsFormulaTooWide}
use Rattle.fort_formula_grammar.specs.FormulaText.{IsFormulaText, FormulaFault, IsFirstFormulaFault}
use Rattle.fort_answers.specs.Lines.{formula_fault_line, formula_too_wide, formula_open, formula_closed}

-- the text is the formula, and no part of it is too wide
pub record IsAccepted (text : List ℕ) (f : Formula) : Type 0 where
  pub read : IsFormulaText text f
  pub narrow : IsFormulaTooWide f → ⊥

-- the cases in their order, each with what the earlier one leaves
pub data IsRefused (text line : List ℕ) : Type 0 where
  Faulty : (fault : FormulaFault) → IsFirstFormulaFault text fault → line ≡ formula_fault_line fault → IsRefused text line
  Wide : (f : Formula) → IsFormulaText text f → IsFormulaTooWide f → line ≡ formula_too_wide → IsRefused text line

-- the formulas that a command takes: any, those in which no variable is free, or those in which some variable is
pub data Openness : Type 0 where
  Any : Openness
  Closed : Openness
  Open : Openness

-- the formula is one of these
abbrev pub IsTaken : Openness → Formula → Type 0
IsTaken Any f = Unit {0}
IsTaken Closed f = free_names f ≡ []
IsTaken Open f = free_names f ≡ [] → ⊥

-- it is none of these, and the line says so
abbrev pub IsNotTaken : Openness → Formula → (line : List ℕ) → Type 0
IsNotTaken Any f line = ⊥
IsNotTaken Closed f line = (x : Name) × (xs : List Name) × (free_names f ≡ x ∷ xs) × (line ≡ formula_open x)
IsNotTaken Open f line = (free_names f ≡ []) × (line ≡ formula_closed)

-- the text is accepted as a formula that is taken
pub record IsAcceptedAs (openness : Openness) (text : List ℕ) (f : Formula) : Type 0 where
  pub accepted : IsAccepted text f
  pub taken : IsTaken openness f

-- the same of a closed formula
abbrev pub IsAcceptedClosed : (text : List ℕ) → Formula → Type 0
IsAcceptedClosed text f = IsAcceptedAs Closed text f

-- it is not accepted, or the formula is not taken
pub data IsRefusedAs (openness : Openness) (text line : List ℕ) : Type 0 where
  Refused : IsRefused text line → IsRefusedAs openness text line
  NotTaken : (f : Formula) → IsAccepted text f → IsNotTaken openness f line → IsRefusedAs openness text line

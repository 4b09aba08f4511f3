-- The text of a formula that is accepted isn't refused, and a formula that a command takes is none that it doesn't.
use Rattle.std.specs.Prelude.{◌≡◌, ℕ, List, [], ◌∷◌}
use Rattle.std.proofs.Common.{sym, subst, ◌∙◌}
use Rattle.fort_logic.specs.Formulas.{Formula}
use Rattle.fort_logic.specs.Translation.{IsFormulaTooWide}
use Rattle.fort_formula_grammar.proofs.OneFormula.{IsFormulaText-unique, no_formula_fault}
use Rattle.fort_answers.specs.FormulaAnswer.{IsAccepted, IsRefused, Faulty, Wide, Openness, Any, Closed, Open, IsTaken, IsNotTaken}

pub accepted-not_refused : (text : List ℕ) (f : Formula) (line : List ℕ) → IsAccepted text f → IsRefused text line → ⊥
accepted-not_refused text f line is (Faulty fault first says) = no_formula_fault is.read first
accepted-not_refused text f line is (Wide g read wide says) = is.narrow (subst IsFormulaTooWide (IsFormulaText-unique read is.read) wide)

pub taken-not_refused : (o : Openness) (f : Formula) (line : List ℕ) → IsTaken o f → IsNotTaken o f line → ⊥
taken-not_refused Any f line taken not = not
taken-not_refused Closed f line taken (x, xs, free, says) = let both : [] ≡ x ∷ xs = sym taken ∙ free in cc
taken-not_refused Open f line taken (closed, says) = taken closed

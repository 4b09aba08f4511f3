-- The text of a formula has one line that refuses it, and a formula that a command doesn't take has one that says so.
use Rattle.std.proofs.Common.{◌≡◌, List, ℕ, ◌∷◌, ap, sym, ◌∙◌}
use Rattle.fort_logic.specs.Formulas.{Formula}
use Rattle.fort_formula_grammar.proofs.OneFormula.{IsFirstFormulaFault-unique, no_formula_fault}
use Rattle.fort_answers.specs.Lines.{formula_fault_line, formula_open}
use Rattle.fort_answers.specs.FormulaAnswer.{IsRefused, Faulty, Wide, Openness, Any, Closed, Open, IsNotTaken}

pub IsRefused-unique : (text line line' : List ℕ) → IsRefused text line → IsRefused text line' → line ≡ line'
IsRefused-unique text line line' (Faulty x first e) (Faulty y first' e') = e ∙ (ap formula_fault_line (IsFirstFormulaFault-unique first first') ∙ sym e')
IsRefused-unique text line line' (Faulty x first e) (Wide g read wide e') = absurd (no_formula_fault read first)
IsRefused-unique text line line' (Wide f read wide e) (Faulty y first e') = absurd (no_formula_fault read first)
IsRefused-unique text line line' (Wide f read wide e) (Wide g read' wide' e') = e ∙ sym e'

pub IsNotTaken-unique : (o : Openness) (f : Formula) (line line' : List ℕ) → IsNotTaken o f line → IsNotTaken o f line' → line ≡ line'
IsNotTaken-unique Any f line line' not not' = absurd not
IsNotTaken-unique Closed f line line' (x, xs, free, e) (y, ys, free', e') =
    let both : x ∷ xs ≡ y ∷ ys = sym free ∙ free' in
    let same : x ≡ y = cc in
    e ∙ (ap formula_open same ∙ sym e')
IsNotTaken-unique Open f line line' (closed, e) (closed', e') = e ∙ sym e'

-- What a request owes before anything is read is one answer, and it is no request for which the input is read.
use Rattle.std.proofs.Common.{◌≡◌, ℕ, sym, subst, ◌∙◌}
use Rattle.fort_logic.specs.Formulas.{Formula}
use Rattle.fort_formula_grammar.proofs.OneFormula.{IsFormulaText-unique}
use Rattle.fort_answers.specs.Requests.{Text}
use Rattle.fort_answers.specs.Lines.{refused}
use Rattle.fort_answers.specs.FormulaAnswer.{IsAccepted, Openness, IsNotTaken, IsAcceptedAs, IsRefusedAs, Refused, NotTaken}
use Rattle.fort_answers.specs.SystemAnswer.{Are, Inquiry, IsRefusedEarly}
use Rattle.fort_answers.proofs.OneVerdict.{accepted-not_refused, taken-not_refused}
use Rattle.fort_answers.proofs.OneRefusal.{IsRefused-unique, IsNotTaken-unique}

-- two that are the same are one
pub Are-unique : (n : ℕ) (x : Text) (status status' : ℕ) (text text' : Text) → Are status text n x → Are status' text' n x → Are status text status' text'
Are-unique n x status status' text text' are are' =
    record { same_status = are.same_status ∙ sym are'.same_status; same_text = are.same_text ∙ sym are'.same_text }

-- a formula's text is accepted as one formula, or refused by one line, and not both

IsAccepted-unique : (text : Text) (f f' : Formula) → IsAccepted text f → IsAccepted text f' → f ≡ f'
IsAccepted-unique text f f' is is' = IsFormulaText-unique is.read is'.read

pub IsAcceptedAs-unique : (o : Openness) (text : Text) (f f' : Formula) → IsAcceptedAs o text f → IsAcceptedAs o text f' → f ≡ f'
IsAcceptedAs-unique o text f f' is is' = IsAccepted-unique text f f' is.accepted is'.accepted

IsRefusedAs-unique : (o : Openness) (text line line' : Text) → IsRefusedAs o text line → IsRefusedAs o text line' → line ≡ line'
IsRefusedAs-unique o text line line' (Refused faulty) (Refused faulty') = IsRefused-unique text line line' faulty faulty'
IsRefusedAs-unique o text line line' (Refused faulty) (NotTaken g accepted not) = absurd (accepted-not_refused text g line accepted faulty)
IsRefusedAs-unique o text line line' (NotTaken f accepted not) (Refused faulty) = absurd (accepted-not_refused text f line' accepted faulty)
IsRefusedAs-unique o text line line' (NotTaken f accepted not) (NotTaken g accepted' not') =
    IsNotTaken-unique o f line line' not (subst (λ h. IsNotTaken o h line') (IsAccepted-unique text g f accepted' accepted) not')

pub accepted_as-not_refused : (o : Openness) (text line : Text) (f : Formula) → IsAcceptedAs o text f → IsRefusedAs o text line → ⊥
accepted_as-not_refused o text line f is (Refused faulty) = accepted-not_refused text f line is.accepted faulty
accepted_as-not_refused o text line f is (NotTaken g accepted not) =
    taken-not_refused o f line is.taken (subst (λ h. IsNotTaken o h line) (IsAccepted-unique text g f accepted is.accepted) not)

module _ (inquiry : Inquiry) where
  pub IsRefusedEarly-unique : (s s' : ℕ) (t t' : Text) → IsRefusedEarly inquiry s t → IsRefusedEarly inquiry s' t' → Are s t s' t'
  IsRefusedEarly-unique s s' t t' one other =
      Are-unique refused one.refusal s s' t t' one.are
      (subst (Are s' t' refused) (IsRefusedAs-unique inquiry.openness inquiry.formula other.refusal one.refusal other.is one.is) other.are)

  pub early-without_input : (s : ℕ) (t : Text) (f : Formula) → IsRefusedEarly inquiry s t → IsAcceptedAs inquiry.openness inquiry.formula f → ⊥
  early-without_input s t f early taken = accepted_as-not_refused inquiry.openness inquiry.formula early.refusal f taken early.is

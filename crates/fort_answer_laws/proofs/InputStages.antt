-- The stages at which an input is refused: it is too long, its text is at fault, or its forms are.
use Rattle.std.proofs.Common.{◌≡◌, ℕ, ◌<◌, ◌≤◌, List, length, sym, ap, subst, ◌∙◌, arith}
use Rattle.fort_grammar.specs.Text.{TextFault, IsFirstFault}
use Rattle.fort_grammar.specs.Forms.{Forms, AreFormsOf}
use Rattle.fort_grammar.proofs.OneReading.{same_forms}
use Rattle.fort_sexpr.proofs.OneFault.{same_first_fault, IsFaultless-no_first_fault}
use Rattle.fort_answers.specs.Lines.{text_fault_line, input_too_long}
use Rattle.fort_answers.specs.InputAnswer.{input_limit}

pub data Refusal (R : Forms → List ℕ → Type 0) (bytes line : List ℕ) : Type 0 where
  Long : input_limit < length bytes → line ≡ input_too_long → Refusal R bytes line
  BadText : length bytes ≤ input_limit → (fault : TextFault) → IsFirstFault bytes fault → line ≡ text_fault_line fault → Refusal R bytes line
  Read : length bytes ≤ input_limit → (forms : Forms) → AreFormsOf bytes forms → R forms line → Refusal R bytes line

module _ (R : Forms → List ℕ → Type 0) (bytes : List ℕ) where
  moved : (forms forms' : Forms) (line : List ℕ) → AreFormsOf bytes forms → AreFormsOf bytes forms' → R forms' line → R forms line
  moved forms forms' line are are' r = subst (λ fs. R fs line) (same_forms bytes forms' forms are'.stand are.stand) r

  -- a text has one refusal, where its forms have
  pub stages_one : (line line' : List ℕ) → ((forms : Forms) → R forms line → R forms line' → line ≡ line') → Refusal R bytes line → Refusal R bytes line'
      → line ≡ line'
  stages_one line line' one (Long over e) (Long over' e') = e ∙ sym e'
  stages_one line line' one (Long over e) (BadText short y first' e') = absurd (omega arith)
  stages_one line line' one (Long over e) (Read short forms are r) = absurd (omega arith)
  stages_one line line' one (BadText short x first e) (Long over e') = absurd (omega arith)
  stages_one line line' one (BadText short x first e) (BadText short' y first' e') =
      e ∙ (ap text_fault_line (same_first_fault bytes x y first first') ∙ sym e')
  stages_one line line' one (BadText short x first e) (Read short' forms are r) = absurd (IsFaultless-no_first_fault bytes x first are.faultless)
  stages_one line line' one (Read short forms are r) (Long over e) = absurd (omega arith)
  stages_one line line' one (Read short forms are r) (BadText short' y first e) = absurd (IsFaultless-no_first_fault bytes y first are.faultless)
  stages_one line line' one (Read short forms are r) (Read short' forms' are' r') = one forms r (moved forms forms' line' are are' r')

  -- a text with forms is refused for them alone
  pub stages_read : (line : List ℕ) (forms : Forms) → length bytes ≤ input_limit → AreFormsOf bytes forms → Refusal R bytes line → R forms line
  stages_read line forms short are (Long over e) = absurd (omega arith)
  stages_read line forms short are (BadText short' x first e) = absurd (IsFaultless-no_first_fault bytes x first are.faultless)
  stages_read line forms short are (Read short' forms' are' r) = moved forms forms' line are are' r

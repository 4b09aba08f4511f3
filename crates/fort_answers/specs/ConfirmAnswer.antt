-- To believe: what `confirm` asks of an open formula over an input with a certificate, and what it says: the terms that are found, that there are none, or the first form that fails, where and why.
use Rattle.std.specs.Prelude.{◌≡◌, ℕ, List, ◌++◌, map, None, Some, codes, decimal}
use Rattle.fort_theory.specs.Trees.{Tree}
use Rattle.fort_theory.specs.Sides.{System}
use Rattle.fort_theory.specs.Patterns.{pattern_system}
use Rattle.fort_logic.specs.Formulas.{Formula}
use Rattle.fort_logic.specs.FreeNames.{free_names}
use Rattle.fort_logic.specs.Translation.{core_of}
use Rattle.fort_certificate_theory.specs.Outcomes.{Reason}
use Rattle.fort_certificate_theory.specs.OpenCertificates.{Found, Empty, OpenCertificate}
use Rattle.fort_certificate_theory.specs.OpenChecked.{OpenOutcome, Confirmed, Rejected, NoEntry, last_of, HasOpenOutcome}
use Rattle.fort_answers.specs.Requests.{Text}
use Rattle.fort_answers.specs.Lines.{positive, negative, line}
use Rattle.fort_answers.specs.FormulaAnswer.{Open}
use Rattle.fort_answers.specs.InputAnswer.{AnOpenCertificate}
use Rattle.fort_answers.specs.SystemAnswer.{Are, Inquiry}
use Rattle.fort_answers.specs.Witnesses.{bindings}
use Rattle.fort_answers.specs.CheckAnswer.{rejected_line}

-- the first line where terms are found
abbrev pub certified_witness_line : Text
certified_witness_line = line (codes "CERTIFIED WITNESS")

abbrev pub certified_none_line : Text
certified_none_line = line (codes "CERTIFIED NONE")

-- the node of this form is no entry over the nodes before it
abbrev pub node_line : (form : ℕ) → Text
node_line form = line (codes "REJECTED form " ++ (decimal form ++ codes " place 0 node"))

-- the terms of the last node have a line each
pub data OwesOpenOutcome (system : System) (f : Formula) (c : OpenCertificate) (status : ℕ) (text : Text) : OpenOutcome → Type 0 where
  SaysFound : (ts : List Tree) → last_of c.nodes ≡ map Some ts
      → Are status text positive (certified_witness_line ++ bindings system.signature (free_names f) ts)
      → OwesOpenOutcome system f c status text (Confirmed Found)
  SaysNone : Are status text positive certified_none_line → OwesOpenOutcome system f c status text (Confirmed Empty)
  SaysRejected : (form place : ℕ) (reason : Reason) → Are status text negative (rejected_line form place reason)
      → OwesOpenOutcome system f c status text (Rejected form place reason)
  SaysNoEntry : (form : ℕ) → Are status text negative (node_line form) → OwesOpenOutcome system f c status text (NoEntry form)

-- what comes of the certificate
pub record ConfirmVerdict (system : System) (c : OpenCertificate) (terms : List Tree) (f : Formula) (status : ℕ) (text : Text) : Type 0 where
  pub outcome : OpenOutcome
  pub has : HasOpenOutcome (pattern_system system) (core_of terms f) c outcome
  pub owes : OwesOpenOutcome system f c status text outcome

-- what `confirm` asks of an open formula and a certificate
abbrev pub confirm_inquiry : (formula : Text) → Inquiry
confirm_inquiry formula = record { formula = formula; openness = Open; tail = AnOpenCertificate; options = None; says = ConfirmVerdict }

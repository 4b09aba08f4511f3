-- To believe: what `check` asks of a formula over an input with a certificate, and what it says: the verdict of a certificate in order, or the first form that fails, where and why.
use Rattle.std.specs.Prelude.{ℕ, Bool, true, false, List, ◌++◌, codes, decimal, None}
use Rattle.fort_theory.specs.Trees.{Tree}
use Rattle.fort_theory.specs.Sides.{System}
use Rattle.fort_theory.specs.Patterns.{pattern_system}
use Rattle.fort_logic.specs.Formulas.{Formula}
use Rattle.fort_logic.specs.Translation.{core_of}
use Rattle.fort_certificate_theory.specs.Certificates.{Certificate}
use Rattle.fort_certificate_theory.specs.Outcomes as outcomes
use Rattle.fort_certificate_theory.specs.Outcomes.{Reason}
use Rattle.fort_certificate_theory.specs.Checked.{Outcome, Certified, Rejected, HasOutcome}
use Rattle.fort_answers.specs.Requests.{Text}
use Rattle.fort_answers.specs.Lines.{positive, negative, line}
use Rattle.fort_answers.specs.FormulaAnswer.{Closed}
use Rattle.fort_answers.specs.InputAnswer.{ACertificate}
use Rattle.fort_answers.specs.SystemAnswer.{Are, Inquiry}

-- ---- lines

abbrev pub reason_word : Reason → List ℕ
reason_word outcomes.Due = codes "due"
reason_word outcomes.Range = codes "range"
reason_word outcomes.Unfounded = codes "unfounded"
reason_word outcomes.Open = codes "open"
reason_word outcomes.Target = codes "target"
reason_word outcomes.Label = codes "label"
reason_word outcomes.Short = codes "short"
reason_word outcomes.Long = codes "long"
reason_word outcomes.Class = codes "class"
reason_word outcomes.Split = codes "split"
reason_word outcomes.Count = codes "count"
reason_word outcomes.Rank = codes "rank"
reason_word outcomes.Cycle = codes "cycle"
reason_word outcomes.Value = codes "value"
reason_word outcomes.Verdict = codes "verdict"

abbrev pub certified_line : Bool → List ℕ
certified_line true = line (codes "CERTIFIED YES")
certified_line false = line (codes "CERTIFIED NO")

abbrev pub rejected_line : (form place : ℕ) → Reason → List ℕ
rejected_line form place reason =
    line (codes "REJECTED form " ++ (decimal form ++ (codes " place " ++ (decimal place ++ (codes " " ++ reason_word reason)))))

-- ---- what is owed

abbrev pub OwesOutcome : Outcome → ℕ → Text → Type 0
OwesOutcome (Certified verdict) status text = Are status text positive (certified_line verdict)
OwesOutcome (Rejected form place reason) status text = Are status text negative (rejected_line form place reason)

-- what comes of the certificate
pub record CheckVerdict (system : System) (c : Certificate) (terms : List Tree) (f : Formula) (status : ℕ) (text : Text) : Type 0 where
  pub outcome : Outcome
  pub has : HasOutcome (pattern_system system) (core_of terms f) c outcome
  pub owes : OwesOutcome outcome status text

-- what `check` asks of a closed formula and a certificate
abbrev pub check_inquiry : (formula : Text) → Inquiry
check_inquiry formula = record { formula = formula; openness = Closed; tail = ACertificate; options = None; says = CheckVerdict }

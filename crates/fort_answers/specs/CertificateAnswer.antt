-- To believe: what `decide --certificate` owes where nothing withholds the verdict: the text of the certificate that is written for the formula over the system.
use Rattle.std.specs.Prelude.{ℕ, Bool, List, length}
use Rattle.std.specs.List.{AllByRecursion}
use Rattle.fort_theory.specs.Trees.{Tree}
use Rattle.fort_theory.specs.Sides.{System}
use Rattle.fort_theory.specs.Patterns.{pattern_system}
use Rattle.fort_logic.specs.Formulas.{Formula}
use Rattle.fort_logic.specs.Translation.{core_of}
use Rattle.fort_certificate_theory.specs.Certificates.{Certificate}
use Rattle.fort_certificate_theory.specs.CertificateForms.{version_for}
use Rattle.fort_certificate_theory.specs.CertificateText.{certificate_text, CanBeWritten}
use Rattle.fort_certificate_theory.specs.Written.{IsWritten}
use Rattle.fort_answers.specs.Requests.{Text}
use Rattle.fort_answers.specs.Lines.{positive}
use Rattle.fort_answers.specs.SystemAnswer.{Are}

-- with reduced tables or with tables as they are; with either verdict the status is the same
pub record CertificateVerdict (reduces : Bool) (system : System) (terms : List Tree) (f : Formula) (status : ℕ) (text : Text) : Type 0 where
  pub certificate : Certificate
  pub written : IsWritten reduces (pattern_system system) (core_of terms f) certificate
  -- the format has a largest number
  pub small : AllByRecursion (CanBeWritten (version_for reduces (length system.rules))) certificate.steps
  pub are : Are status text positive (certificate_text (version_for reduces (length system.rules)) certificate.verdict certificate.steps)

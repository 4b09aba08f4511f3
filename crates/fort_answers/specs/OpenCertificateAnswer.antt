-- To believe: what `witness --certificate` owes where nothing withholds the answer: the text of the certificate that is written for the open formula over the system.
use Rattle.std.specs.Prelude.{ℕ, Bool, List}
use Rattle.std.specs.List.{AllByRecursion}
use Rattle.fort_theory.specs.Trees.{Tree}
use Rattle.fort_theory.specs.Sides.{System}
use Rattle.fort_theory.specs.Patterns.{pattern_system}
use Rattle.fort_logic.specs.Formulas.{Formula}
use Rattle.fort_logic.specs.Translation.{core_of}
use Rattle.fort_certificate_theory.specs.CertificateText.{CanBeWritten}
use Rattle.fort_certificate_theory.specs.OpenCertificates.{OpenCertificate}
use Rattle.fort_certificate_theory.specs.OpenForms.{step_version}
use Rattle.fort_certificate_theory.specs.OpenText.{open_text, CanNodeBeWritten}
use Rattle.fort_certificate_theory.specs.OpenWritten.{IsOpenWritten}
use Rattle.fort_answers.specs.Requests.{Text}
use Rattle.fort_answers.specs.Lines.{positive}
use Rattle.fort_answers.specs.SystemAnswer.{Are}

-- with reduced tables or with tables as they are; with either claim the status is the same
pub record OpenCertificateVerdict (reduces : Bool) (system : System) (terms : List Tree) (f : Formula) (status : ℕ) (text : Text) : Type 0 where
  pub certificate : OpenCertificate
  pub written : IsOpenWritten reduces (pattern_system system) (core_of terms f) certificate
  -- the format has a largest number
  pub small_steps : AllByRecursion (CanBeWritten step_version) certificate.steps
  pub small_nodes : AllByRecursion CanNodeBeWritten certificate.nodes
  pub are : Are status text positive (open_text certificate.claim certificate.steps certificate.nodes)

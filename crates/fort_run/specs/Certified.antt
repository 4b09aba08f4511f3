-- To believe: what CERTIFIED says, whoever wrote the certificate; that `check` answers where there is all that it speaks of; what a printed certificate says, and that a certificate which is owed is accepted behind the bytes of its problem.
use Rattle.std.specs.Prelude.{◌≡◌, ◌≤◌, Bool, true, false, List, ◌∷◌, ◌++◌, length, Option, Some}
use Rattle.fort_theory.specs.Trees.{Tree}
use Rattle.fort_theory.specs.Sides.{System}
use Rattle.fort_logic.specs.Formulas.{Formula}
use Rattle.fort_logic.specs.Truth.{IsTrueOf, IsFalseOf}
use Rattle.fort_certificate_theory.specs.Certificates.{Step, Certificate}
use Rattle.fort_certificate_theory.specs.CertificateForms.{Version, version_for}
use Rattle.fort_certificate_theory.specs.CertificateText.{certificate_text}
use Rattle.fort_io.specs.Devices.{Takes}
use Rattle.fort_answers.specs.Requests.{Text, Check}
use Rattle.fort_answers.specs.CommandGrammar.{request_of}
use Rattle.fort_answers.specs.Lines.{positive}
use Rattle.fort_answers.specs.FormulaAnswer.{IsAcceptedClosed}
use Rattle.fort_answers.specs.InputAnswer.{IsInput, IsCertifiedInput, input_limit}
use Rattle.fort_answers.specs.Said.{BeginsWith}
use Rattle.fort_answers.specs.FitAnswer.{FitsSystem}
use Rattle.fort_answers.specs.CheckAnswer.{certified_line}
use Rattle.fort_answers.specs.Answer.{owed}
use Rattle.fort_answers.specs.Told.{HoldsForTold}

-- ---- what CERTIFIED says

abbrev pub IsTruth : Bool → System → List Tree → Formula → Type 0
IsTruth true system terms f = IsTrueOf system terms f
IsTruth false system terms f = IsFalseOf system terms f

-- the line is owed to the bytes, and says the formula's truth over the system with which they begin
pub record IsCertified (formula bytes line : Text) : Type 0 where
  pub is_owed : owed (Some (Check formula)) bytes positive line
  pub f : Formula
  pub accepted : IsAcceptedClosed formula f
  pub system : System
  pub begins : BeginsWith bytes system
  pub terms : List Tree
  pub fits : FitsSystem formula f system terms
  pub verdict : Bool
  pub is : IsTruth verdict system terms f
  pub says : line ≡ certified_line verdict

-- for the bytes that were told; where none were, for some bytes
abbrev pub IsCertifiedTold : (formula : Text) → (told : Option Text) → (line : Text) → Type 0
IsCertifiedTold formula told line = HoldsForTold told (λ bytes. IsCertified formula bytes line)

-- from old to new the sink took the line
pub record CertifiesTruth (formula : Text) (told old new : Option Text) : Type 0 where
  pub line : Text
  pub certified : IsCertifiedTold formula told line
  pub taken : Takes old new line

-- ---- when `check` answers

-- the words ask to check a certificate, and the bytes are one behind a system with all that the formula speaks of
pub record IsCheckable (words : List Text) (told : Option Text) : Type 0 where
  pub formula : Text
  pub asked : request_of words ≡ Some (Check formula)
  pub f : Formula
  pub accepted : IsAcceptedClosed formula f
  pub bytes : Text
  pub told_are : told ≡ Some bytes
  pub system : System
  pub certificate : Certificate
  pub input : IsCertifiedInput bytes system certificate
  pub terms : List Tree
  pub fits : FitsSystem formula f system terms

-- ---- what a printed certificate is worth

-- the text is a certificate with the formula's truth over the system of the bytes, of the version for its tables; behind these and an LF it is
-- accepted with that verdict, where the whole keeps the limit of inputs
pub record IsPrinted (reduces : Bool) (formula bytes text : Text) : Type 0 where
  pub f : Formula
  pub accepted : IsAcceptedClosed formula f
  pub system : System
  pub input : IsInput bytes system
  pub terms : List Tree
  pub fits : FitsSystem formula f system terms
  pub verdict : Bool
  pub is : IsTruth verdict system terms f
  pub steps : List Step
  pub says : text ≡ certificate_text (version_for reduces (length system.rules)) verdict steps
  pub again : length (bytes ++ 10 ∷ text) ≤ input_limit → owed (Some (Check formula)) (bytes ++ 10 ∷ text) positive (certified_line verdict)

-- it is printed for the bytes that were told; where none were, for some bytes
abbrev pub IsPrintedTold : (reduces : Bool) → (formula : Text) → (told : Option Text) → (text : Text) → Type 0
IsPrintedTold reduces formula told text = HoldsForTold told (λ bytes. IsPrinted reduces formula bytes text)

-- from old to new the sink took the certificate
pub record PrintsTruth (reduces : Bool) (formula : Text) (told old new : Option Text) : Type 0 where
  pub text : Text
  pub printed : IsPrintedTold reduces formula told text
  pub taken : Takes old new text

-- the text is a certificate; behind the bytes and an LF it is accepted with the verdict of its header, where the whole keeps the limit of inputs
pub record IsAcceptedBehind (formula bytes text : Text) : Type 0 where
  pub version : Version
  pub verdict : Bool
  pub steps : List Step
  pub is : text ≡ certificate_text version verdict steps
  pub accepted : length (bytes ++ 10 ∷ text) ≤ input_limit → owed (Some (Check formula)) (bytes ++ 10 ∷ text) positive (certified_line verdict)

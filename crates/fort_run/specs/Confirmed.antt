-- To believe: what CERTIFIED WITNESS and CERTIFIED NONE say, whoever wrote the certificate; that `confirm` answers where there is all that it speaks of; what a printed certificate of terms says, and that one which is owed is accepted behind the bytes of its problem.
use Rattle.std.specs.Prelude.{◌≡◌, ◌≤◌, List, ◌∷◌, ◌++◌, map, length, Option, Some}
use Rattle.fort_theory.specs.Trees.{Tree}
use Rattle.fort_theory.specs.Sides.{System}
use Rattle.fort_logic.specs.Formulas.{Formula}
use Rattle.fort_logic.specs.FreeNames.{free_names}
use Rattle.fort_logic.specs.Truth.{IsFalseOf}
use Rattle.fort_tables.specs.Entries.{Entry}
use Rattle.fort_certificate_theory.specs.Certificates.{Step}
use Rattle.fort_certificate_theory.specs.OpenCertificates.{Claim, Found, Empty, OpenCertificate}
use Rattle.fort_certificate_theory.specs.OpenText.{open_text}
use Rattle.fort_certificate_theory.specs.OpenChecked.{last_of}
use Rattle.fort_io.specs.Devices.{Takes}
use Rattle.fort_answers.specs.Requests.{Text, Confirm}
use Rattle.fort_answers.specs.CommandGrammar.{request_of}
use Rattle.fort_answers.specs.Lines.{positive}
use Rattle.fort_answers.specs.FormulaAnswer.{Open, IsAcceptedAs}
use Rattle.fort_answers.specs.InputAnswer.{IsInput, IsOpenCertifiedInput, input_limit}
use Rattle.fort_answers.specs.FitAnswer.{FitsSystem}
use Rattle.fort_answers.specs.Witnesses.{AreWitnesses, AreLeastWitnesses, bindings}
use Rattle.fort_answers.specs.ConfirmAnswer.{certified_witness_line, certified_none_line}
use Rattle.fort_answers.specs.Answer.{owed}
use Rattle.fort_answers.specs.Told.{HoldsForTold}
use Rattle.fort_answers.specs.Said.{BeginsWith}

-- ---- what `confirm` says

-- some terms satisfy the formula, and these are printed; or none do
pub data SaysTerms (system : System) (terms : List Tree) (f : Formula) (text : Text) : Type 0 where
  SaysSome : (ts : List Tree) → AreWitnesses system terms f ts → text ≡ certified_witness_line ++ bindings system.signature (free_names f) ts
      → SaysTerms system terms f text
  SaysNone : IsFalseOf system terms f → text ≡ certified_none_line → SaysTerms system terms f text

-- the text is owed to the bytes, and says that of the system with which they begin
pub record IsConfirmed (formula bytes text : Text) : Type 0 where
  pub is_owed : owed (Some (Confirm formula)) bytes positive text
  pub f : Formula
  pub accepted : IsAcceptedAs Open formula f
  pub system : System
  pub begins : BeginsWith bytes system
  pub terms : List Tree
  pub fits : FitsSystem formula f system terms
  pub says : SaysTerms system terms f text

-- for the bytes that were told; where none were, for some bytes
abbrev pub IsConfirmedTold : (formula : Text) → (told : Option Text) → (text : Text) → Type 0
IsConfirmedTold formula told text = HoldsForTold told (λ bytes. IsConfirmed formula bytes text)

-- from old to new the sink took the text
pub record ConfirmsTerms (formula : Text) (told old new : Option Text) : Type 0 where
  pub text : Text
  pub confirmed : IsConfirmedTold formula told text
  pub taken : Takes old new text

-- ---- when `confirm` answers

-- the words ask to check a certificate of an open formula, and the bytes are one behind a system with all that the formula speaks of
pub record IsConfirmable (words : List Text) (told : Option Text) : Type 0 where
  pub formula : Text
  pub asked : request_of words ≡ Some (Confirm formula)
  pub f : Formula
  pub accepted : IsAcceptedAs Open formula f
  pub bytes : Text
  pub told_are : told ≡ Some bytes
  pub system : System
  pub certificate : OpenCertificate
  pub input : IsOpenCertifiedInput bytes system certificate
  pub terms : List Tree
  pub fits : FitsSystem formula f system terms

-- ---- what a printed certificate of terms is worth

-- what a certificate with this claim says: the least terms that satisfy the formula, or that none do
abbrev pub SaysLeast : System → List Tree → Formula → Claim → (line : Text) → Type 0
SaysLeast system terms f Found text =
    (ts : List Tree) × AreLeastWitnesses system terms f ts × (text ≡ certified_witness_line ++ bindings system.signature (free_names f) ts)
SaysLeast system terms f Empty text = IsFalseOf system terms f × (text ≡ certified_none_line)

-- the same of its nodes: the last one has these terms
abbrev pub TellsLeast : System → List Tree → Formula → Claim → (nodes : List Entry) → Type 0
TellsLeast system terms f Found nodes = (ts : List Tree) × AreLeastWitnesses system terms f ts × (last_of nodes ≡ map Some ts)
TellsLeast system terms f Empty nodes = IsFalseOf system terms f

-- the text is a certificate that says this of the system of the bytes; behind these and an LF it is accepted, and that is printed, where the
-- whole keeps the limit of inputs
pub record IsPrintedTerms (formula bytes text : Text) : Type 0 where
  pub f : Formula
  pub accepted : IsAcceptedAs Open formula f
  pub system : System
  pub input : IsInput bytes system
  pub terms : List Tree
  pub fits : FitsSystem formula f system terms
  pub claim : Claim
  pub steps : List Step
  pub nodes : List Entry
  pub is : text ≡ open_text claim steps nodes
  pub lines : Text
  pub says : SaysLeast system terms f claim lines
  pub again : length (bytes ++ 10 ∷ text) ≤ input_limit → owed (Some (Confirm formula)) (bytes ++ 10 ∷ text) positive lines

-- it is printed for the bytes that were told; where none were, for some bytes
abbrev pub IsPrintedTermsTold : (formula : Text) → (told : Option Text) → (text : Text) → Type 0
IsPrintedTermsTold formula told text = HoldsForTold told (λ bytes. IsPrintedTerms formula bytes text)

-- from old to new the sink took the certificate
pub record PrintsTerms (formula : Text) (told old new : Option Text) : Type 0 where
  pub text : Text
  pub printed : IsPrintedTermsTold formula told text
  pub taken : Takes old new text

-- what is printed where a certificate with this claim is accepted: terms, or that there are none
abbrev pub TellsClaim : Claim → (text : Text) → Type 0
TellsClaim Found text = (lines : Text) × (text ≡ certified_witness_line ++ lines)
TellsClaim Empty text = text ≡ certified_none_line

-- the text is a certificate; behind the bytes and an LF it is accepted with its claim, where the whole keeps the limit of inputs
pub record IsOpenAcceptedBehind (formula bytes text : Text) : Type 0 where
  pub claim : Claim
  pub steps : List Step
  pub nodes : List Entry
  pub is : text ≡ open_text claim steps nodes
  pub lines : Text
  pub tells : TellsClaim claim lines
  pub accepted : length (bytes ++ 10 ∷ text) ≤ input_limit → owed (Some (Confirm formula)) (bytes ++ 10 ∷ text) positive lines

-- To believe: when an input is accepted as a system, alone or with a certificate of a closed or an open formula behind it, or as a signature alone, and which line refuses one.
use Rattle.std.specs.Prelude.{◌≡◌, ℕ, ◌+◌, ◌<◌, ◌≤◌, List, [], ◌∷◌, length, codes}
use Rattle.fort_theory.specs.Sides.{System}
use Rattle.fort_grammar.specs.Text.{TextFault, IsFirstFault}
use Rattle.fort_grammar.specs.Forms.{Form, Forms, AreFormsOf}
use Rattle.fort_grammar.specs.Declarations.{ProblemFault, NoFormat, BadForm, as_list, IsListOfWords}
use Rattle.fort_grammar.specs.ProblemForms.{IsProblem, IsFirstProblemFault, IsProblemText}
use Rattle.fort_certificate_theory.specs.Certificates.{Certificate}
use Rattle.fort_certificate_theory.specs.CertificateForms.{IsCertificate}
use Rattle.fort_certificate_theory.specs.CertificateFaults.{CertificateFault, IsFirstCertificateFault}
use Rattle.fort_certificate_theory.specs.OpenCertificates.{OpenCertificate}
use Rattle.fort_certificate_theory.specs.OpenForms.{IsOpenCertificate}
use Rattle.fort_certificate_theory.specs.OpenFaults.{IsFirstOpenFault}
use Rattle.fort_answers.specs.Lines.{input_too_long, text_fault_line, problem_fault_line, certificate_fault_line}

-- the most bytes of an input
abbrev pub input_limit : ℕ
input_limit = 67108864

-- what has to stand behind the problem; for NoRules nothing, and it begins with `(format TRS)` and has no rules
pub data Tail : Type 0 where
  Nothing : Tail
  ACertificate : Tail
  AnOpenCertificate : Tail
  NoRules : Tail

-- what is read there
abbrev pub Behind : Tail → Type 0
Behind Nothing = Unit {0}
Behind ACertificate = Certificate
Behind AnOpenCertificate = OpenCertificate
Behind NoRules = Unit {0}

-- the input is the system, with no form behind it
pub record IsInput (bytes : List ℕ) (system : System) : Type 0 where
  pub short : length bytes ≤ input_limit
  pub problem : IsProblemText bytes system

-- the input is the system, and behind it this certificate for as many systems
pub record IsCertifiedInput (bytes : List ℕ) (system : System) (c : Certificate) : Type 0 where
  pub short : length bytes ≤ input_limit
  pub forms : Forms
  pub are_forms : AreFormsOf bytes forms
  pub next : ℕ
  pub problem : IsProblem bytes (as_list forms) system next
  pub certificate : IsCertificate bytes (length system.rules) (as_list forms) next c

-- the same of a certificate of an open formula
pub record IsOpenCertifiedInput (bytes : List ℕ) (system : System) (c : OpenCertificate) : Type 0 where
  pub short : length bytes ≤ input_limit
  pub forms : Forms
  pub are_forms : AreFormsOf bytes forms
  pub next : ℕ
  pub problem : IsProblem bytes (as_list forms) system next
  pub certificate : IsOpenCertificate bytes (as_list forms) next c

-- the first form is `(format TRS)`, without a number of systems
abbrev pub BeginsPlainly : (bytes : List ℕ) → List Form → Type 0
BeginsPlainly bytes [] = ⊥
BeginsPlainly bytes (f ∷ fs) = IsListOfWords bytes f (codes "format" ∷ codes "TRS" ∷ [])

-- the number of the first form behind the declarations
abbrev pub behind_declarations : System → ℕ
behind_declarations system = length system.signature + 1

-- the input is `(format TRS)` and the declarations of a signature alone: a system of one index without rules
pub record IsSignatureInput (bytes : List ℕ) (system : System) : Type 0 where
  pub short : length bytes ≤ input_limit
  pub forms : Forms
  pub are_forms : AreFormsOf bytes forms
  pub plain : BeginsPlainly bytes (as_list forms)
  pub problem : IsProblem bytes (as_list forms) system (length (as_list forms))
  pub no_rules : behind_declarations system ≡ length (as_list forms)

-- the input is the system with this tail
abbrev pub IsInputWith : (tail : Tail) → (bytes : List ℕ) → System → Behind tail → Type 0
IsInputWith Nothing bytes system behind = IsInput bytes system
IsInputWith ACertificate bytes system behind = IsCertifiedInput bytes system behind
IsInputWith AnOpenCertificate bytes system behind = IsOpenCertifiedInput bytes system behind
IsInputWith NoRules bytes system behind = IsSignatureInput bytes system

-- the first fault of forms that are to begin with `(format TRS)`
pub data IsFirstPlainFault (bytes : List ℕ) (forms : List Form) : ProblemFault → Type 0 where
  NotPlain : (BeginsPlainly bytes forms → ⊥) → IsFirstPlainFault bytes forms NoFormat
  Plain : BeginsPlainly bytes forms → (fault : ProblemFault) → IsFirstProblemFault bytes forms fault → IsFirstPlainFault bytes forms fault

-- the forms are no problem; where no rules may stand, the first form has to be `(format TRS)`
abbrev pub IsProblemRefused : Tail → (bytes : List ℕ) → Forms → ProblemFault → Type 0
IsProblemRefused Nothing bytes forms fault = IsFirstProblemFault bytes (as_list forms) fault
IsProblemRefused ACertificate bytes forms fault = IsFirstProblemFault bytes (as_list forms) fault
IsProblemRefused AnOpenCertificate bytes forms fault = IsFirstProblemFault bytes (as_list forms) fault
IsProblemRefused NoRules bytes forms fault = IsFirstPlainFault bytes (as_list forms) fault

-- the forms from this number on, behind the problem, are not what has to stand there
abbrev pub IsTailRefused : Tail → (bytes : List ℕ) → Forms → System → (next : ℕ) → (line : List ℕ) → Type 0
IsTailRefused Nothing bytes forms system next line = (next < length (as_list forms)) × (line ≡ problem_fault_line (BadForm next))
IsTailRefused ACertificate bytes forms system next line =
    (fault : CertificateFault) × IsFirstCertificateFault bytes (length system.rules) (as_list forms) next fault × (line ≡ certificate_fault_line fault)
IsTailRefused AnOpenCertificate bytes forms system next line =
    (fault : CertificateFault) × IsFirstOpenFault bytes (as_list forms) next fault × (line ≡ certificate_fault_line fault)
IsTailRefused NoRules bytes forms system next line =
    BeginsPlainly bytes (as_list forms) × (behind_declarations system < length (as_list forms))
    × (line ≡ problem_fault_line (BadForm (behind_declarations system)))

-- the cases in their order, each with what the earlier ones leave
pub data IsInputRefused (tail : Tail) (bytes line : List ℕ) : Type 0 where
  TooLong : input_limit < length bytes → line ≡ input_too_long → IsInputRefused tail bytes line
  NoForms : length bytes ≤ input_limit → (fault : TextFault) → IsFirstFault bytes fault → line ≡ text_fault_line fault
      → IsInputRefused tail bytes line
  NoProblem : length bytes ≤ input_limit → (forms : Forms) → AreFormsOf bytes forms → (fault : ProblemFault)
      → IsProblemRefused tail bytes forms fault → line ≡ problem_fault_line fault → IsInputRefused tail bytes line
  BadTail : length bytes ≤ input_limit → (forms : Forms) → AreFormsOf bytes forms → (system : System) (next : ℕ)
      → IsProblem bytes (as_list forms) system next → IsTailRefused tail bytes forms system next line → IsInputRefused tail bytes line

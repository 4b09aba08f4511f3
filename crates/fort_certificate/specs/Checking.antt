-- Inside: that forms are values, and which is the first that is none.
use Rattle.std.specs.Prelude.{◌≡◌, ℕ, ◌+◌, ◌-◌, true, List, ◌∷◌, ◌++◌, length, Some, take, drop}
use Rattle.std.specs.List.{AllZip}
use Rattle.fort_grammar.specs.Forms.{Form}
use Rattle.fort_grammar.specs.Declarations.{elements_of, IsHeaded}
use Rattle.fort_certificate_theory.specs.Certificates.{Step}
use Rattle.fort_certificate_theory.specs.CertificateForms.{Version, IsStepForm}
use Rattle.fort_certificate_theory.specs.CertificateFaults.{CertificateFault, FaultKind, StepHead, head_word, is_head_of, slots_of, rest_of, AreBad, IsBadStep}

abbrev pub IsSomeStep : List ℕ → Version → Form → Type 0
IsSomeStep bytes version f = (s : Step) × IsStepForm bytes version f s

abbrev pub AreSomeSteps : List ℕ → Version → List Form → Type 0
AreSomeSteps bytes version fs = (ss : List Step) × AllZip (IsStepForm bytes version) fs ss

-- a form headed so, as one of the version may be, with these elements behind its head, is the step
abbrev pub AreElementsOf : List ℕ → Version → StepHead → List Form → Step → Type 0
AreElementsOf bytes version which fs s =
    (f head : Form) → is_head_of version which ≡ true → elements_of f ≡ Some (head ∷ fs) → IsHeaded bytes (head_word which) f
    → IsStepForm bytes version f s

-- what is first wrong with elements that should stand behind the head
abbrev pub AreBadElementsOf : List ℕ → Version → StepHead → List Form → FaultKind → Type 0
AreBadElementsOf bytes version which fs kind = AreBad bytes (slots_of which version) (rest_of which) fs kind

-- a list from one place up to another
abbrev pub between : {A : Type 0} → (from end : ℕ) → List A → List A
between from end xs = take (end - from) (drop from xs)

-- the fault of the first form that is no value; i is the number of the first of the forms
pub record HasFirstBad {A : Type 0} (R : Form → A → Type 0) (Bad : ℕ → Form → CertificateFault → Type 0) (i : ℕ) (fs : List Form)
    (fault : CertificateFault) : Type 0 where
  pub before : List Form
  pub f : Form
  pub after : List Form
  pub values : List A
  pub is : fs ≡ before ++ f ∷ after
  pub fine : AllZip R before values
  pub bad : Bad (i + length before) f fault

abbrev pub HasBadStep : List ℕ → Version → ℕ → List Form → CertificateFault → Type 0
HasBadStep bytes version i fs fault = HasFirstBad (IsStepForm bytes version) (IsBadStep bytes version) i fs fault

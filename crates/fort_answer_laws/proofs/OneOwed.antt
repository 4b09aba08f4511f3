-- Words and bytes are owed one answer.
use Rattle.std.proofs.Common.{arith, ◌≡◌, ◌⊎◌, ℕ, ◌≤◌, List, inl, inr, sym, subst, ◌∙◌}
use Rattle.std.specs.Prelude.{Option, None, Some, Bool, true, false}
use Rattle.fort_theory.specs.Trees.{Tree}
use Rattle.fort_theory.specs.Sides.{System}
use Rattle.fort_theory.proofs.Lists.{some-injective}
use Rattle.fort_logic.specs.Formulas.{Formula}
use Rattle.fort_certificate_theory.specs.Certificates.{Certificate}
use Rattle.fort_certificate_theory.specs.OpenCertificates.{OpenCertificate}
use Rattle.fort_answers.specs.Requests.{Text, Request, Decide, Witness, Check, Sample, Solutions, Confirm, Synth, Options, Bounds, Family}
use Rattle.fort_answers.specs.Lines.{negative, usage, usage_text, limited}
use Rattle.fort_answers.specs.FormulaAnswer.{Open, IsAcceptedAs, IsAcceptedClosed}
use Rattle.fort_answers.specs.InputAnswer.{IsInput, IsCertifiedInput, IsOpenCertifiedInput, IsSignatureInput}
use Rattle.fort_answers.specs.FitAnswer.{FitsSystem}
use Rattle.fort_answers.specs.SystemAnswer.{Are, KeepsCap, FormulaRefused}
use Rattle.fort_answers.specs.DecideAnswer.{decide_inquiry}
use Rattle.fort_answers.specs.WitnessAnswer.{witness_inquiry}
use Rattle.fort_answers.specs.CheckAnswer.{check_inquiry}
use Rattle.fort_answers.specs.SolutionsAnswer.{solutions_inquiry}
use Rattle.fort_answers.specs.ConfirmAnswer.{confirm_inquiry}
use Rattle.fort_answers.specs.SynthAnswer.{IsOfFamily, SynthVerdict, TooLarge, Found, Over, NotFound, synth_inquiry}
use Rattle.fort_answers.specs.FamilyRules.{FamilyRule, IsTooLarge}
use Rattle.fort_answers.specs.FamilySystems.{system_of}
use Rattle.fort_theory.specs.Signatures.{Signature}
use Rattle.fort_answers.specs.Answer.{Owing, WithoutInput, About, owing, IsOwedEarly, IsOwed, owed_early, owed, OwesTold, IsAbout}
use Rattle.fort_answers.specs.PossibleRequests.{IsPossible}
use Rattle.fort_answers.proofs.OneRequest.{Are-unique}
use Rattle.fort_answers.proofs.OneCap.{PassesCap-not_kept}
use Rattle.fort_answers.proofs.OneSample.{SampleAnswer-unique}
use Rattle.fort_answer_laws.proofs.OneVerdicts.{DecideVerdict-unique, DecideVerdict-low, WitnessVerdict-unique, WitnessVerdict-low, CheckVerdict-unique, CheckVerdict-low}
use Rattle.fort_answer_laws.proofs.OneSolutions.{SolutionsVerdict-unique, SolutionsVerdict-low}
use Rattle.fort_answer_laws.proofs.OneConfirmed.{OpenCertificateVerdict-unique, OpenCertificateVerdict-low, ConfirmVerdict-unique, ConfirmVerdict-low}
use Rattle.fort_answer_laws.proofs.OneSynth.{SynthVerdict-unique}
use Rattle.fort_answer_laws.proofs.OneAnswer.{SaysOne, SaysLow, IsAnswerTo-unique, IsAnswerTo-or_over, IsAnswerTo-low}

-- ---- what each command says

decide_one : (options : Options) (certificate : Bool) (formula : Text) → SaysOne (decide_inquiry options certificate formula)
decide_one options certificate formula system behind terms f s s' t t' constant grounded one other =
    DecideVerdict-unique certificate options.reduces system terms f s s' t t' constant grounded one other

decide_low : (options : Options) (certificate : Bool) (formula : Text) → SaysLow (decide_inquiry options certificate formula)
decide_low options certificate formula system behind terms f s t says = DecideVerdict-low certificate options.reduces system terms f s t says

witness_one : (options : Options) (certificate : Bool) (formula : Text) → SaysOne (witness_inquiry options certificate formula)
witness_one options false formula system behind terms f s s' t t' constant grounded one other = WitnessVerdict-unique system terms f s s' t t' one other
witness_one options true formula system behind terms f s s' t t' constant grounded one other =
    OpenCertificateVerdict-unique options.reduces system terms f s s' t t' one other

witness_low : (options : Options) (certificate : Bool) (formula : Text) → SaysLow (witness_inquiry options certificate formula)
witness_low options false formula system behind terms f s t says = WitnessVerdict-low system terms f s t says
witness_low options true formula system behind terms f s t says = OpenCertificateVerdict-low options.reduces system terms f s t says

check_one : (formula : Text) → SaysOne (check_inquiry formula)
check_one formula system behind terms f s s' t t' constant grounded one other = CheckVerdict-unique system behind terms f s s' t t' one other

check_low : (formula : Text) → SaysLow (check_inquiry formula)
check_low formula system behind terms f s t says = CheckVerdict-low system behind terms f s t says

solutions_one : (options : Options) (bounds : Bounds) (formula : Text) → SaysOne (solutions_inquiry options bounds formula)
solutions_one options bounds formula system behind terms f s s' t t' constant grounded one other =
    SolutionsVerdict-unique bounds system terms f s s' t t' one other

solutions_low : (options : Options) (bounds : Bounds) (formula : Text) → SaysLow (solutions_inquiry options bounds formula)
solutions_low options bounds formula system behind terms f s t says = SolutionsVerdict-low bounds system terms f s t says

confirm_one : (formula : Text) → SaysOne (confirm_inquiry formula)
confirm_one formula system behind terms f s s' t t' constant grounded one other = ConfirmVerdict-unique system behind terms f s s' t t' one other

confirm_low : (formula : Text) → SaysLow (confirm_inquiry formula)
confirm_low formula system behind terms f s t says = ConfirmVerdict-low system behind terms f s t says

synth_one : (options : Options) (family : Family) (formula : Text) → SaysOne (synth_inquiry options family formula)
synth_one options family formula system behind terms f s s' t t' constant grounded one other =
    SynthVerdict-unique options family system terms f s s' t t' constant grounded one other

-- ---- requests

-- Result: to a request that can be asked, and to words that are none, one status and text are owed for these bytes
pub owed-unique : (request : Option Request) (bytes : Text) (s s' : ℕ) (t t' : Text) → IsPossible request → owed request bytes s t
    → owed request bytes s' t' → Are s t s' t'
owed-unique None bytes s s' t t' possible one other = Are-unique usage usage_text s s' t t' one other
owed-unique (Some (Decide options certificate formula)) bytes s s' t t' possible one other =
    IsAnswerTo-unique (decide_inquiry options certificate formula) bytes (decide_one options certificate formula) s s' t t' one other
owed-unique (Some (Witness options certificate formula)) bytes s s' t t' possible one other =
    IsAnswerTo-unique (witness_inquiry options certificate formula) bytes (witness_one options certificate formula) s s' t t' one other
owed-unique (Some (Check formula)) bytes s s' t t' possible one other = IsAnswerTo-unique (check_inquiry formula) bytes (check_one formula) s s' t t' one other
owed-unique (Some (Sample n)) bytes s s' t t' possible one other = SampleAnswer-unique n s s' t t' possible.low one other
owed-unique (Some (Solutions options bounds formula)) bytes s s' t t' possible one other =
    IsAnswerTo-unique (solutions_inquiry options bounds formula) bytes (solutions_one options bounds formula) s s' t t' one other
owed-unique (Some (Confirm formula)) bytes s s' t t' possible one other =
    IsAnswerTo-unique (confirm_inquiry formula) bytes (confirm_one formula) s s' t t' one other
owed-unique (Some (Synth options family formula)) bytes s s' t t' possible one other =
    IsAnswerTo-unique (synth_inquiry options family formula) bytes (synth_one options family formula) s s' t t' one other

from_early : (o : Owing) (bytes : Text) (s : ℕ) (t : Text) → (early : IsOwedEarly o s t) → IsOwed o bytes s t
from_early (WithoutInput answer) bytes s t early = early
from_early (About inquiry) bytes s t early = FormulaRefused early

-- what is owed before anything is read is owed for any bytes
pub owed_from_early : (request : Option Request) (bytes : Text) (s : ℕ) (t : Text) → owed_early request s t → owed request bytes s t
owed_from_early request bytes s t early = from_early (owing request) bytes s t early

-- what a source tells is some bytes
pub bytes_told : (request : Option Request) (told : Option Text) (s : ℕ) (t : Text) → OwesTold request told s t → (bytes : Text) × owed request bytes s t
bytes_told request None s t owes = owes
bytes_told request (Some bytes) s t owes = (bytes, owes)

-- ---- over a system with all that the formula speaks of

module _ (asked : Options) (formula : Text) (f : Formula) (bytes : Text) (system : System) (terms : List Tree) (s : ℕ) (t : Text) (is : IsInput bytes system)
    (fits : FitsSystem formula f system terms) where
  abbrev IsLow : Type 0
  IsLow = (s ≤ negative) ⊎ ((s ≡ limited) × (KeepsCap system terms f asked → ⊥))

  -- by the options of which there was told
  by_options : (own : Options) → Some own ≡ Some asked → (s ≤ negative) ⊎ ((s ≡ limited) × ((o : Options) × (Some own ≡ Some o) × (KeepsCap system terms f o → ⊥))) → IsLow
  by_options own same (inl low) = inl low
  by_options own same (inr over) =
      inr (over.0, subst (λ o. KeepsCap system terms f o → ⊥) (some-injective (sym over.1.1 ∙ same)) over.1.2)

  no_options : None ≡ Some asked → ⊥
  no_options e = cc

  -- Result: a request about a formula is answered by a verdict, or by the part that is over the cap
  pub answered_low : (request : Option Request) → IsAbout request asked formula f → owed request bytes s t → IsLow
  answered_low None about answer = absurd about
  answered_low (Some (Decide options certificate text)) about answer =
      by_options options about.0 (IsAnswerTo-low (decide_inquiry options certificate text) bytes (decide_low options certificate text) f system tt terms s t about.2 is
      (subst (λ x. FitsSystem x f system terms) (sym about.1) fits) answer)
  answered_low (Some (Witness options certificate text)) about answer =
      by_options options about.0 (IsAnswerTo-low (witness_inquiry options certificate text) bytes (witness_low options certificate text) f system tt terms s t about.2 is
      (subst (λ x. FitsSystem x f system terms) (sym about.1) fits) answer)
  answered_low (Some (Check text)) about answer = absurd (no_options about.0)
  answered_low (Some (Sample n)) about answer = absurd about
  answered_low (Some (Solutions options bounds text)) about answer =
      by_options options about.0 (IsAnswerTo-low (solutions_inquiry options bounds text) bytes (solutions_low options bounds text) f system tt terms s t about.2 is
      (subst (λ x. FitsSystem x f system terms) (sym about.1) fits) answer)
  answered_low (Some (Confirm text)) about answer = absurd (no_options about.0)
  answered_low (Some (Synth options family text)) about answer = absurd (no_options about.0)

-- over a family that isn't too large
verdict_low : (options : Options) (family : Family) (signature : Signature) (terms : List Tree) (f : Formula) (s : ℕ) (t : Text)
    → (IsTooLarge signature family.height → ⊥) → SynthVerdict options family signature terms f s t → (s ≤ negative) ⊎ (s ≡ limited)
verdict_low options family signature terms f s t not_large (TooLarge large are) = absurd (not_large large)
verdict_low options family signature terms f s t not_large (Found small rules reached keeps holds are) = let e = are.same_status in inl (omega arith)
verdict_low options family signature terms f s t not_large (Over small rules reached k kind passes are) = inr are.same_status
verdict_low options family signature terms f s t not_large (NotFound small all are) = let e = are.same_status in inl (omega arith)

-- Result: a certificate behind a system with all that the formula speaks of is certified or rejected
pub checked_low : (formula : Text) (f : Formula) (bytes : Text) (system : System) (c : Certificate) (terms : List Tree) (s : ℕ) (t : Text)
    → IsAcceptedClosed formula f → IsCertifiedInput bytes system c → FitsSystem formula f system terms → owed (Some (Check formula)) bytes s t → s ≤ negative
checked_low formula f bytes system c terms s t accepted is fits answer =
    elim (IsAnswerTo-low (check_inquiry formula) bytes (check_low formula) f system c terms s t accepted is fits answer) [
      | inl low ↦ low
      | inr over ↦ let e = over.1.1 in cc
    ]

-- Result: the same of a certificate of an open formula
pub confirmed_low : (formula : Text) (f : Formula) (bytes : Text) (system : System) (c : OpenCertificate) (terms : List Tree) (s : ℕ) (t : Text)
    → IsAcceptedAs Open formula f → IsOpenCertifiedInput bytes system c → FitsSystem formula f system terms → owed (Some (Confirm formula)) bytes s t
    → s ≤ negative
confirmed_low formula f bytes system c terms s t accepted is fits answer =
    elim (IsAnswerTo-low (confirm_inquiry formula) bytes (confirm_low formula) f system c terms s t accepted is fits answer) [
      | inl low ↦ low
      | inr over ↦ let e = over.1.1 in cc
    ]

-- Result: a search through a family over a signature that has all that the formula speaks of says one of its verdicts, or stops at the cap
pub searched_low : (options : Options) (family : Family) (formula : Text) (f : Formula) (bytes : Text) (system : System) (terms : List Tree) (s : ℕ) (t : Text)
    → IsAcceptedClosed formula f → IsSignatureInput bytes system → FitsSystem formula f system terms
    → (IsTooLarge system.signature family.height → ⊥) → owed (Some (Synth options family formula)) bytes s t → (s ≤ negative) ⊎ (s ≡ limited)
searched_low options family formula f bytes system terms s t accepted is fits not_large answer =
    elim (IsAnswerTo-or_over (synth_inquiry options family formula) bytes ((s ≤ negative) ⊎ (s ≡ limited)) f system tt terms s t accepted is fits
    (verdict_low options family system.signature terms f s t not_large) answer) [
      | inl low ↦ low
      | inr over ↦ let e = over.1.1 in cc
    ]

-- the same where no part is over the cap over any system of the family
verdict_within : (options : Options) (family : Family) (signature : Signature) (terms : List Tree) (f : Formula) (s : ℕ) (t : Text)
    → (IsTooLarge signature family.height → ⊥)
    → ((rules : List FamilyRule) → IsOfFamily signature family rules → KeepsCap (system_of signature rules) terms f options)
    → SynthVerdict options family signature terms f s t → s ≤ negative
verdict_within options family signature terms f s t not_large keeps (TooLarge large are) = absurd (not_large large)
verdict_within options family signature terms f s t not_large keeps (Found small rules reached kept holds are) =
    let e = are.same_status in omega (arith, e)
verdict_within options family signature terms f s t not_large keeps (Over small rules reached k kind passes are) =
    absurd (PassesCap-not_kept (system_of signature rules) terms f options k kind passes (keeps rules reached.of_family))
verdict_within options family signature terms f s t not_large keeps (NotFound small all are) = let e = are.same_status in omega (arith, e)

-- Result: such a search says one of its verdicts
pub searched_within : (options : Options) (family : Family) (formula : Text) (f : Formula) (bytes : Text) (system : System) (terms : List Tree) (s : ℕ)
    (t : Text) → IsAcceptedClosed formula f → IsSignatureInput bytes system → FitsSystem formula f system terms
    → (IsTooLarge system.signature family.height → ⊥)
    → ((rules : List FamilyRule) → IsOfFamily system.signature family rules → KeepsCap (system_of system.signature rules) terms f options)
    → owed (Some (Synth options family formula)) bytes s t → s ≤ negative
searched_within options family formula f bytes system terms s t accepted is fits not_large keeps answer =
    elim (IsAnswerTo-or_over (synth_inquiry options family formula) bytes (s ≤ negative) f system tt terms s t accepted is fits
    (verdict_within options family system.signature terms f s t not_large keeps) answer) [
      | inl low ↦ low
      | inr over ↦ let e = over.1.1 in cc
    ]

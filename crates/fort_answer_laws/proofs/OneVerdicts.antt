-- What a command says of a formula over a system is one answer, of a status that is YES's or NO's.
use Rattle.std.proofs.Common.{◌≡◌, ℕ, ◌≤◌, List, map, subst, arith, ⊎_elim}
use Rattle.std.specs.Prelude.{All, Bool, true, false, length, Some, ◌++◌}
use Rattle.fort_theory.specs.Trees.{Tree}
use Rattle.fort_theory.specs.Signatures.{IsGround, HasConstant}
use Rattle.fort_theory.specs.Sides.{System}
use Rattle.fort_theory.specs.Patterns.{pattern_system}
use Rattle.fort_logic.specs.Formulas.{Formula}
use Rattle.fort_logic.specs.FreeNames.{free_names}
use Rattle.fort_logic.specs.Translation.{core_of}
use Rattle.fort_logic.specs.Truth.{IsFalseOf}
use Rattle.fort_logic.proofs.Verdicts.{IsTrueOf-not_false}
use Rattle.fort_certificate_theory.specs.Certificates.{Step, Certificate}
use Rattle.fort_certificate_theory.specs.CertificateForms.{version_for}
use Rattle.fort_certificate_theory.specs.CertificateText.{certificate_text}
use Rattle.fort_certificate_theory.specs.Checked.{Outcome, Certified, Rejected}
use Rattle.fort_certificate_theory.proofs.CheckedLaws.{HasOutcome-one}
use Rattle.fort_certificate_theory.proofs.WrittenLaws.{IsWritten-one}
use Rattle.fort_tables.proofs.TupleOrderLaws.{not_after_none}
use Rattle.fort_answers.specs.Requests.{Text}
use Rattle.fort_answers.specs.Lines.{positive, negative, yes_line, no_line, witness_line, none_line}
use Rattle.fort_answers.specs.SystemAnswer.{Are}
use Rattle.fort_answers.specs.DecideAnswer.{TruthVerdict, Yes, No, DecideVerdict}
use Rattle.fort_answers.specs.WitnessAnswer.{WitnessVerdict, Found, NotFound}
use Rattle.fort_answers.specs.Witnesses.{AreWitnesses, AreLeastWitnesses, bindings}
use Rattle.fort_answers.specs.CertificateAnswer.{CertificateVerdict}
use Rattle.fort_answers.specs.CheckAnswer.{certified_line, rejected_line, OwesOutcome, CheckVerdict}
use Rattle.fort_answers.proofs.OneRequest.{Are-unique}
use Rattle.fort_answer_laws.proofs.TermTuples.{terms-one}

TruthVerdict-unique : (system : System) (terms : List Tree) (f : Formula) (s s' : ℕ) (t t' : Text) → HasConstant system.signature
    → All (IsGround system.signature) terms → TruthVerdict system terms f s t → TruthVerdict system terms f s' t' → Are s t s' t'
TruthVerdict-unique system terms f s s' t t' constant grounded (Yes holds are) (Yes holds' are') = Are-unique positive yes_line s s' t t' are are'
TruthVerdict-unique system terms f s s' t t' constant grounded (Yes holds are) (No fails are') =
    absurd (IsTrueOf-not_false system terms f constant grounded holds fails)
TruthVerdict-unique system terms f s s' t t' constant grounded (No fails are) (Yes holds are') =
    absurd (IsTrueOf-not_false system terms f constant grounded holds fails)
TruthVerdict-unique system terms f s s' t t' constant grounded (No fails are) (No fails' are') = Are-unique negative no_line s s' t t' are are'

TruthVerdict-low : (system : System) (terms : List Tree) (f : Formula) (s : ℕ) (t : Text) → TruthVerdict system terms f s t → s ≤ negative
TruthVerdict-low system terms f s t (Yes holds are) = let e = are.same_status in omega arith
TruthVerdict-low system terms f s t (No fails are) = let e = are.same_status in omega arith

CertificateVerdict-unique : (reduces : Bool) (system : System) (terms : List Tree) (f : Formula) (s s' : ℕ) (t t' : Text)
    → CertificateVerdict reduces system terms f s t → CertificateVerdict reduces system terms f s' t' → Are s t s' t'
CertificateVerdict-unique reduces system terms f s s' t t' one other =
    let text : Bool → List Step → Text = λ v ss. certificate_text (version_for reduces (length system.rules)) v ss in
    let same = IsWritten-one reduces (pattern_system system) (core_of terms f) other.certificate one.certificate other.written one.written in
    Are-unique positive (text one.certificate.verdict one.certificate.steps) s s' t t' one.are
    (subst (λ v. Are s' t' positive (text v one.certificate.steps)) same.verdict
    (subst (λ ss. Are s' t' positive (text other.certificate.verdict ss)) same.steps other.are))

CertificateVerdict-low : (reduces : Bool) (system : System) (terms : List Tree) (f : Formula) (s : ℕ) (t : Text)
    → CertificateVerdict reduces system terms f s t → s ≤ negative
CertificateVerdict-low reduces system terms f s t says = let e = says.are.same_status in omega arith

pub DecideVerdict-unique : (certificate reduces : Bool) (system : System) (terms : List Tree) (f : Formula) (s s' : ℕ) (t t' : Text)
    → HasConstant system.signature → All (IsGround system.signature) terms → DecideVerdict certificate reduces system terms f s t
    → DecideVerdict certificate reduces system terms f s' t' → Are s t s' t'
DecideVerdict-unique false reduces system terms f s s' t t' constant grounded one other =
    TruthVerdict-unique system terms f s s' t t' constant grounded one other
DecideVerdict-unique true reduces system terms f s s' t t' constant grounded one other =
    CertificateVerdict-unique reduces system terms f s s' t t' one other

pub DecideVerdict-low : (certificate reduces : Bool) (system : System) (terms : List Tree) (f : Formula) (s : ℕ) (t : Text)
    → DecideVerdict certificate reduces system terms f s t → s ≤ negative
DecideVerdict-low false reduces system terms f s t says = TruthVerdict-low system terms f s t says
DecideVerdict-low true reduces system terms f s t says = CertificateVerdict-low reduces system terms f s t says

AreLeastWitnesses-unique : (system : System) (terms : List Tree) (f : Formula) (ts us : List Tree) → AreLeastWitnesses system terms f ts
    → AreLeastWitnesses system terms f us → ts ≡ us
AreLeastWitnesses-unique system terms f ts us one other =
    ⊎_elim (λ e. terms-one ts us e) (λ before. absurd (not_after_none (map Some us) (map Some ts) (other.least ts one.are) before)) (one.least us other.are)

none_found : (system : System) (terms : List Tree) (f : Formula) (ts : List Tree) → AreWitnesses system terms f ts → IsFalseOf system terms f → ⊥
none_found system terms f ts are fails = fails are.assignment are.grounded are.given are.holds

pub WitnessVerdict-unique : (system : System) (terms : List Tree) (f : Formula) (s s' : ℕ) (t t' : Text) → WitnessVerdict system terms f s t
    → WitnessVerdict system terms f s' t' → Are s t s' t'
WitnessVerdict-unique system terms f s s' t t' (Found ts least are) (Found us least' are') =
    let text : List Tree → Text = λ xs. witness_line ++ bindings system.signature (free_names f) xs in
    Are-unique positive (text ts) s s' t t' are
    (subst (λ xs. Are s' t' positive (text xs)) (AreLeastWitnesses-unique system terms f us ts least' least) are')
WitnessVerdict-unique system terms f s s' t t' (Found ts least are) (NotFound none are') = absurd (none_found system terms f ts least.are none)
WitnessVerdict-unique system terms f s s' t t' (NotFound none are) (Found us least are') = absurd (none_found system terms f us least.are none)
WitnessVerdict-unique system terms f s s' t t' (NotFound none are) (NotFound none' are') = Are-unique negative none_line s s' t t' are are'

pub WitnessVerdict-low : (system : System) (terms : List Tree) (f : Formula) (s : ℕ) (t : Text) → WitnessVerdict system terms f s t → s ≤ negative
WitnessVerdict-low system terms f s t (Found ts least are) = let e = are.same_status in omega arith
WitnessVerdict-low system terms f s t (NotFound none are) = let e = are.same_status in omega arith

OwesOutcome-unique : (o : Outcome) (s s' : ℕ) (t t' : Text) → OwesOutcome o s t → OwesOutcome o s' t' → Are s t s' t'
OwesOutcome-unique (Certified verdict) s s' t t' one other = Are-unique positive (certified_line verdict) s s' t t' one other
OwesOutcome-unique (Rejected form place reason) s s' t t' one other = Are-unique negative (rejected_line form place reason) s s' t t' one other

OwesOutcome-low : (o : Outcome) (s : ℕ) (t : Text) → OwesOutcome o s t → s ≤ negative
OwesOutcome-low (Certified verdict) s t owes = let e = owes.same_status in omega arith
OwesOutcome-low (Rejected form place reason) s t owes = let e = owes.same_status in omega arith

module _ (system : System) (c : Certificate) (terms : List Tree) (f : Formula) where
  pub CheckVerdict-unique : (s s' : ℕ) (t t' : Text) → CheckVerdict system c terms f s t → CheckVerdict system c terms f s' t' → Are s t s' t'
  CheckVerdict-unique s s' t t' one other =
      let same = HasOutcome-one (pattern_system system) (core_of terms f) c other.outcome one.outcome other.has one.has in
      OwesOutcome-unique one.outcome s s' t t' one.owes (subst (λ x. OwesOutcome x s' t') same other.owes)

  pub CheckVerdict-low : (s : ℕ) (t : Text) → CheckVerdict system c terms f s t → s ≤ negative
  CheckVerdict-low s t says = OwesOutcome-low says.outcome s t says.owes

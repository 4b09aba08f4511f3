-- What `confirm` says of a certificate is one answer, as is the certificate that `witness` writes, of a status that is YES's or NO's.
use Rattle.std.proofs.Common.{ℕ, ◌≤◌, List, ◌++◌, sym, subst, ◌∙◌, arith}
use Rattle.std.specs.Prelude.{Bool}
use Rattle.fort_theory.specs.Trees.{Tree}
use Rattle.fort_theory.specs.Sides.{System}
use Rattle.fort_theory.specs.Patterns.{pattern_system}
use Rattle.fort_logic.specs.Formulas.{Formula}
use Rattle.fort_logic.specs.FreeNames.{free_names}
use Rattle.fort_logic.specs.Translation.{core_of}
use Rattle.fort_tables.specs.Entries.{Entry}
use Rattle.fort_certificate_theory.specs.Certificates.{Step}
use Rattle.fort_certificate_theory.specs.OpenCertificates.{Claim, Found, Empty, OpenCertificate}
use Rattle.fort_certificate_theory.specs.OpenChecked.{OpenOutcome, Confirmed, Rejected, NoEntry}
use Rattle.fort_certificate_theory.specs.OpenText.{open_text}
use Rattle.fort_certificate_theory.proofs.OneOpenOutcome.{HasOpenOutcome-one}
use Rattle.fort_certificate_theory.proofs.OneOpenWritten.{IsOpenWritten-one}
use Rattle.fort_answers.specs.Requests.{Text}
use Rattle.fort_answers.specs.Lines.{positive, negative}
use Rattle.fort_answers.specs.SystemAnswer.{Are}
use Rattle.fort_answers.specs.Witnesses.{bindings}
use Rattle.fort_answers.specs.OpenCertificateAnswer.{OpenCertificateVerdict}
use Rattle.fort_answers.specs.CheckAnswer.{rejected_line}
use Rattle.fort_answers.specs.ConfirmAnswer.{certified_witness_line, certified_none_line, node_line, OwesOpenOutcome, SaysFound, SaysNone, SaysRejected, SaysNoEntry, ConfirmVerdict}
use Rattle.fort_answers.proofs.OneRequest.{Are-unique}
use Rattle.fort_answer_laws.proofs.TermTuples.{terms-one}

-- ---- the certificate that is written

module _ (reduces : Bool) (system : System) (terms : List Tree) (f : Formula) where
  pub OpenCertificateVerdict-unique : (s s' : ℕ) (t t' : Text) → OpenCertificateVerdict reduces system terms f s t
      → OpenCertificateVerdict reduces system terms f s' t' → Are s t s' t'
  OpenCertificateVerdict-unique s s' t t' one other =
      let c = one.certificate in
      let d = other.certificate in
      let same = IsOpenWritten-one reduces (pattern_system system) (core_of terms f) d c other.written one.written in
      Are-unique positive (open_text c.claim c.steps c.nodes) s s' t t' one.are
      (subst (λ (x : Claim). Are s' t' positive (open_text x c.steps c.nodes)) same.claim
      (subst (λ (ss : List Step). Are s' t' positive (open_text d.claim ss c.nodes)) same.steps
      (subst (λ (ns : List Entry). Are s' t' positive (open_text d.claim d.steps ns)) same.nodes other.are)))

  pub OpenCertificateVerdict-low : (s : ℕ) (t : Text) → OpenCertificateVerdict reduces system terms f s t → s ≤ negative
  OpenCertificateVerdict-low s t says = let e = says.are.same_status in omega arith

-- ---- what comes of a certificate

module _ (system : System) (f : Formula) (c : OpenCertificate) where
  -- the terms that are said are those of the last node
  OwesOpenOutcome-unique : (o : OpenOutcome) (s s' : ℕ) (t t' : Text) → OwesOpenOutcome system f c s t o
      → OwesOpenOutcome system f c s' t' o → Are s t s' t'
  OwesOpenOutcome-unique (Confirmed Found) s s' t t' (SaysFound ts last are) (SaysFound us last' are') =
      let text : List Tree → Text = λ xs. certified_witness_line ++ bindings system.signature (free_names f) xs in
      Are-unique positive (text ts) s s' t t' are
      (subst (λ xs. Are s' t' positive (text xs)) (terms-one us ts (sym last' ∙ last)) are')
  OwesOpenOutcome-unique (Confirmed Empty) s s' t t' (SaysNone are) (SaysNone are') =
      Are-unique positive certified_none_line s s' t t' are are'
  OwesOpenOutcome-unique (Rejected form place reason) s s' t t' (SaysRejected i j r are) (SaysRejected k l q are') =
      Are-unique negative (rejected_line form place reason) s s' t t' are are'
  OwesOpenOutcome-unique (NoEntry form) s s' t t' (SaysNoEntry i are) (SaysNoEntry k are') =
      Are-unique negative (node_line form) s s' t t' are are'

  OwesOpenOutcome-low : (o : OpenOutcome) (s : ℕ) (t : Text) → OwesOpenOutcome system f c s t o → s ≤ negative
  OwesOpenOutcome-low (Confirmed Found) s t (SaysFound ts last are) = let e = are.same_status in omega arith
  OwesOpenOutcome-low (Confirmed Empty) s t (SaysNone are) = let e = are.same_status in omega arith
  OwesOpenOutcome-low (Rejected form place reason) s t (SaysRejected i j r are) = let e = are.same_status in omega arith
  OwesOpenOutcome-low (NoEntry form) s t (SaysNoEntry i are) = let e = are.same_status in omega arith

module _ (system : System) (c : OpenCertificate) (terms : List Tree) (f : Formula) where
  pub ConfirmVerdict-unique : (s s' : ℕ) (t t' : Text) → ConfirmVerdict system c terms f s t
      → ConfirmVerdict system c terms f s' t' → Are s t s' t'
  ConfirmVerdict-unique s s' t t' one other =
      let same = HasOpenOutcome-one (pattern_system system) (core_of terms f) c other.outcome one.outcome other.has one.has in
      OwesOpenOutcome-unique system f c one.outcome s s' t t' one.owes (subst (λ x. OwesOpenOutcome system f c s' t' x) same other.owes)

  pub ConfirmVerdict-low : (s : ℕ) (t : Text) → ConfirmVerdict system c terms f s t → s ≤ negative
  ConfirmVerdict-low s t says = OwesOpenOutcome-low system f c says.outcome s t says.owes

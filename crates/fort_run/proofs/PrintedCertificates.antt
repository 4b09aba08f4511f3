-- A certificate that is owed is accepted behind the bytes of its problem, one of terms too.
use Rattle.std.proofs.Common.{◌≡◌, ℕ, List, length, true, refl, subst, arith}
use Rattle.std.specs.Prelude.{Some}
use Rattle.fort_certificate_theory.specs.CertificateForms.{version_for}
use Rattle.fort_answers.specs.Requests.{Text, Decide, Witness, Options}
use Rattle.fort_answers.specs.CommandGrammar.{request_of}
use Rattle.fort_answers.specs.Lines.{positive}
use Rattle.fort_answers.specs.DecideAnswer.{decide_inquiry}
use Rattle.fort_answers.specs.WitnessAnswer.{witness_inquiry}
use Rattle.fort_answers.specs.SystemAnswer.{IsOwedTo, FormulaRefused, InputRefused, FormulaUnfit, Limited, Says}
use Rattle.fort_answers.specs.Answer.{owed, Answer}
use Rattle.fort_run.proofs.CertificateAccepted.{written_accepted}
use Rattle.fort_run.proofs.OpenAccepted.{written_lines, open_accepted}
use Rattle.fort_run.specs.Certified.{IsAcceptedBehind}
use Rattle.fort_run.specs.Confirmed.{IsOpenAcceptedBehind}

module _ (options : Options) (formula bytes text : Text) where
  accepted : (status : ℕ) → IsOwedTo (decide_inquiry options true formula) bytes status text → status ≡ positive → IsAcceptedBehind formula bytes text
  accepted status (FormulaRefused early) e = let other = early.are.same_status in absurd (omega arith)
  accepted status (InputRefused f taken line says are) e = let other = are.same_status in absurd (omega arith)
  accepted status (FormulaUnfit f taken system behind is line says are) e = let other = are.same_status in absurd (omega arith)
  accepted status (Limited f taken system behind is terms fits own same k kind over are) e = let other = are.same_status in absurd (omega arith)
  accepted status (Says f taken system behind is terms fits keeps verdict) e = record {
    version = version_for options.reduces (length system.rules);
    verdict = verdict.certificate.verdict;
    steps = verdict.certificate.steps;
    is = verdict.are.same_text;
    accepted = λ short. written_accepted options.reduces formula f bytes system terms status text taken is fits verdict short;
  }

-- result
pub printed_accepted : (words : List Text) (options : Options) (formula bytes text : Text) → request_of words ≡ Some (Decide options true formula)
    → Answer words bytes positive text → IsAcceptedBehind formula bytes text
printed_accepted words options formula bytes text asked answer =
    accepted options formula bytes text positive (subst (λ r. owed r bytes positive text) asked answer) refl

-- ---- of terms

module _ (options : Options) (formula bytes text : Text) where
  accepted_terms : (status : ℕ) → IsOwedTo (witness_inquiry options true formula) bytes status text → status ≡ positive
      → IsOpenAcceptedBehind formula bytes text
  accepted_terms status (FormulaRefused early) e = let other = early.are.same_status in absurd (omega arith)
  accepted_terms status (InputRefused f taken line says are) e = let other = are.same_status in absurd (omega arith)
  accepted_terms status (FormulaUnfit f taken system behind is line says are) e = let other = are.same_status in absurd (omega arith)
  accepted_terms status (Limited f taken system behind is terms fits own same k kind over are) e = let other = are.same_status in absurd (omega arith)
  accepted_terms status (Says f taken system behind is terms fits keeps verdict) e =
      let c = verdict.certificate in
      let lines = written_lines system f verdict.written.table c.nodes c.claim verdict.written.claim_is in
      record {
        claim = c.claim;
        steps = c.steps;
        nodes = c.nodes;
        is = verdict.are.same_text;
        lines = lines.0;
        tells = lines.1;
        accepted = λ short. open_accepted options.reduces formula f bytes system terms status text taken is fits verdict lines.0 lines.2 short;
      }

-- result
pub printed_terms_accepted : (words : List Text) (options : Options) (formula bytes text : Text) → request_of words ≡ Some (Witness options true formula)
    → Answer words bytes positive text → IsOpenAcceptedBehind formula bytes text
printed_terms_accepted words options formula bytes text asked answer =
    accepted_terms options formula bytes text positive (subst (λ r. owed r bytes positive text) asked answer) refl

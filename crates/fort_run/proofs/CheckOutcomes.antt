-- What comes of a certificate by the core formula is what comes of it by the formula; a verdict that is certified is the formula's truth.
use Rattle.std.proofs.Common.{◌≡◌, ℕ, List, subst}
use Rattle.std.specs.Prelude.{None, Bool}
use Rattle.fort_theory.specs.Trees.{Tree}
use Rattle.fort_theory.specs.Sides.{System}
use Rattle.fort_theory.specs.Patterns.{PatternSystem, pattern_system}
use Rattle.fort_logic.specs.Formulas.{Formula}
use Rattle.fort_theory.specs.Cores.{Core}
use Rattle.fort_logic.specs.Translation.{core_of}
use Rattle.fort_theory.specs.PatternStructures.{pattern_structure}
use Rattle.fort_parts.specs.PartAnswers.{OfValue, IsAnswerTo}
use Rattle.fort_certificate_theory.specs.Certificates.{Certificate}
use Rattle.fort_certificate_theory.specs.Outcomes.{Reason}
use Rattle.fort_certificate_theory.specs.Checked.{Outcome, Certified, Rejected, HasOutcome}
use Rattle.fort_answers.specs.Lines.{positive, negative}
use Rattle.fort_answers.specs.FormulaAnswer.{Closed}
use Rattle.fort_answers.specs.CheckAnswer.{certified_line, rejected_line}
use Rattle.fort_questions.specs.declared.question.Question.TheVariants.{Check}
use Rattle.fort_run.specs.declared.reply.Reply.{Reply}
use Rattle.fort_run.specs.StatusView.{code_of}
use Rattle.fort_run.specs.Certified.{IsTruth}
use Rattle.fort_run.specs.Posed.{IsPosed}
use Rattle.fort_run.specs.Ready.{IsLawful}
use Rattle.fort_run.specs.Verdicts.{IsVerdict, Says}
use Rattle.fort_run.proofs.PosedQuestions.{value_truth}

module _ (f : Formula) (system : PatternSystem) (terms : List Tree) (k : Core) (posed : IsPosed Closed f system terms k) (c : Certificate)
    (p : System) (lawful : IsLawful p) (same : system ≡ pattern_system p) (reply : Reply) (none : reply.limit ≡ None) where
  outcome_on : (o : Outcome) → HasOutcome system k c o → HasOutcome (pattern_system p) (core_of terms f) c o
  outcome_on o has = subst (λ s. HasOutcome s (core_of terms f) c o) same (subst (λ g. HasOutcome system g c o) posed.is has)

  pub certified_settles : (verdict : Bool) → HasOutcome system k c (Certified verdict) → IsAnswerTo (pattern_structure system) k (OfValue verdict)
      → code_of reply.status ≡ positive → reply.text.items ≡ certified_line verdict → IsVerdict Check p c terms f reply
  certified_settles verdict has answer status_is text_is = Says tt (record {
    checked = record {
      outcome = Certified verdict;
      has = outcome_on (Certified verdict) has;
      owes = record { same_status = status_is; same_text = text_is };
    };
    truth = λ v e. let one : verdict ≡ v = cc in subst (λ b. IsTruth b p terms f) one (value_truth f system terms k posed p lawful same verdict answer);
  }) none

  pub rejected_settles : (form place : ℕ) (reason : Reason) → HasOutcome system k c (Rejected form place reason) → code_of reply.status ≡ negative
      → reply.text.items ≡ rejected_line form place reason → IsVerdict Check p c terms f reply
  rejected_settles form place reason has status_is text_is = Says tt (record {
    checked = record {
      outcome = Rejected form place reason;
      has = outcome_on (Rejected form place reason) has;
      owes = record { same_status = status_is; same_text = text_is };
    };
    truth = λ v e. absurd cc;
  }) none

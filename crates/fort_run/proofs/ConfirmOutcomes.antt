-- What comes of a certificate by the core formula of an open formula is what comes of it by the formula; what is confirmed is right.
use Rattle.std.proofs.Common.{◌≡◌, ℕ, List, ◌++◌, subst, arith}
use Rattle.std.specs.Prelude.{None}
use Rattle.fort_theory.specs.Trees.{Tree}
use Rattle.fort_theory.specs.Sides.{System}
use Rattle.fort_theory.specs.Patterns.{PatternSystem, pattern_system, IsSystem}
use Rattle.fort_logic.specs.Formulas.{Formula}
use Rattle.fort_logic.specs.FreeNames.{free_names}
use Rattle.fort_theory.specs.Cores.{Core}
use Rattle.fort_logic.specs.Translation.{core_of}
use Rattle.fort_certificate_theory.specs.Outcomes.{Reason}
use Rattle.fort_certificate_theory.specs.OpenCertificates.{Found, Empty, OpenCertificate}
use Rattle.fort_certificate_theory.specs.OpenChecked.{OpenOutcome, Confirmed, Rejected, NoEntry, HasOpenOutcome}
use Rattle.fort_answers.specs.Lines.{positive, negative}
use Rattle.fort_answers.specs.FormulaAnswer.{Open}
use Rattle.fort_answers.specs.CheckAnswer.{rejected_line}
use Rattle.fort_answers.specs.ConfirmAnswer.{certified_witness_line, certified_none_line, node_line, SaysFound, SaysNone, SaysRejected, SaysNoEntry}
use Rattle.fort_answers.specs.Witnesses.{bindings}
use Rattle.fort_questions.specs.declared.question.Question.TheVariants.{Confirm}
use Rattle.fort_run.specs.declared.reply.Reply.{Reply}
use Rattle.fort_run.specs.StatusView.{code_of}
use Rattle.fort_run.specs.Confirmed as says
use Rattle.fort_run.specs.Posed.{IsPosed}
use Rattle.fort_run.specs.Ready.{IsLawful}
use Rattle.fort_run.specs.Verdicts.{IsVerdict, Says}
use Rattle.fort_run.specs.Witnesses.{AreLastTerms}
use Rattle.fort_run.proofs.OpenTruths.{terms_satisfy, none_satisfy}

module _ (f : Formula) (system : PatternSystem) (terms : List Tree) (k : Core) (posed : IsPosed Open f system terms k) (c : OpenCertificate)
    (p : System) (lawful : IsLawful p) (same : system ≡ pattern_system p) (reply : Reply) (none : reply.limit ≡ None) where
  outcome_on : (o : OpenOutcome) → HasOpenOutcome system k c o → HasOpenOutcome (pattern_system p) (core_of terms f) c o
  outcome_on o has = subst (λ s. HasOpenOutcome s (core_of terms f) c o) same (subst (λ g. HasOpenOutcome system g c o) posed.is has)

  pub found_settles : IsSystem system → HasOpenOutcome system k c (Confirmed Found) → (ts : List Tree)
      → AreLastTerms p.signature (free_names f) c.nodes ts → code_of reply.status ≡ positive
      → reply.text.items ≡ certified_witness_line ++ bindings p.signature (free_names f) ts → IsVerdict Confirm p c terms f reply
  found_settles is has ts are status_is text_is = Says tt (record {
    checked = record {
      outcome = Confirmed Found;
      has = outcome_on (Confirmed Found) has;
      owes = SaysFound ts are.terms (record { same_status = status_is; same_text = text_is });
    };
    truth = λ e. says.SaysSome ts (terms_satisfy f system terms k posed is c has p lawful same ts are) text_is;
  }) none

  pub empty_settles : IsSystem system → HasOpenOutcome system k c (Confirmed Empty) → code_of reply.status ≡ positive
      → reply.text.items ≡ certified_none_line → IsVerdict Confirm p c terms f reply
  empty_settles is has status_is text_is = Says tt (record {
    checked = record {
      outcome = Confirmed Empty;
      has = outcome_on (Confirmed Empty) has;
      owes = SaysNone (record { same_status = status_is; same_text = text_is });
    };
    truth = λ e. says.SaysNone (none_satisfy f system terms k posed is c has p lawful same) text_is;
  }) none

  pub rejected_settles : (form place : ℕ) (reason : Reason) → HasOpenOutcome system k c (Rejected form place reason)
      → code_of reply.status ≡ negative → reply.text.items ≡ rejected_line form place reason → IsVerdict Confirm p c terms f reply
  rejected_settles form place reason has status_is text_is = Says tt (record {
    checked = record {
      outcome = Rejected form place reason;
      has = outcome_on (Rejected form place reason) has;
      owes = SaysRejected form place reason (record { same_status = status_is; same_text = text_is });
    };
    truth = λ e. absurd (omega (arith, e, status_is));
  }) none

  pub no_entry_settles : (form : ℕ) → HasOpenOutcome system k c (NoEntry form) → code_of reply.status ≡ negative
      → reply.text.items ≡ node_line form → IsVerdict Confirm p c terms f reply
  no_entry_settles form has status_is text_is = Says tt (record {
    checked = record {
      outcome = NoEntry form;
      has = outcome_on (NoEntry form) has;
      owes = SaysNoEntry form (record { same_status = status_is; same_text = text_is });
    };
    truth = λ e. absurd (omega (arith, e, status_is));
  }) none

-- Inside: what a question about a formula comes to over an input: a verdict, with the truth that it tells, or a limit.
use Rattle.std.specs.Prelude.{◌≡◌, ℕ, Bool, List, ◌++◌, Some, None}
use Rattle.fort_theory.specs.Trees.{Tree}
use Rattle.fort_theory.specs.Sides.{System}
use Rattle.fort_theory.specs.Patterns.{pattern_system}
use Rattle.fort_logic.specs.Formulas.{Formula}
use Rattle.fort_logic.specs.Translation.{core_of}
use Rattle.fort_certificate_theory.specs.Checked.{Certified}
use Rattle.fort_certificate_theory.specs.Certificates as certificates
use Rattle.fort_answers.specs.FamilyRules.{FamilyRule, IsTooLarge}
use Rattle.fort_answers.specs.FamilySystems.{system_of}
use Rattle.fort_answers.specs.RuleText.{rule_lines}
use Rattle.fort_answers.specs.Requests.{Text, Options, Family}
use Rattle.fort_answers.specs.Lines as status
use Rattle.fort_answers.specs.InputAnswer.{Behind}
use Rattle.fort_answers.specs.SystemAnswer.{KeepsCapOf}
use Rattle.fort_answers.specs.DecideAnswer.{TruthVerdict}
use Rattle.fort_answers.specs.CertificateAnswer.{CertificateVerdict}
use Rattle.fort_answers.specs.WitnessAnswer.{WitnessVerdict}
use Rattle.fort_answers.specs.CheckAnswer.{CheckVerdict}
use Rattle.fort_answers.specs.SolutionsAnswer.{SolutionsVerdict}
use Rattle.fort_answers.specs.OpenCertificateAnswer.{OpenCertificateVerdict}
use Rattle.fort_answers.specs.ConfirmAnswer.{ConfirmVerdict}
use Rattle.fort_answers.specs.SynthAnswer.{IsReached, SynthVerdict}
use Rattle.fort_formulas.specs.KindView.{as_kind}
use Rattle.fort_certificate_theory.specs.OpenCertificates.{OpenCertificate}
use Rattle.fort_run.specs.Confirmed.{SaysTerms, TellsLeast}
use Rattle.fort_words.specs.RequestView.{as_options, as_bounds, as_family}
use Rattle.fort_engine.specs.AnswerView.{IsLimit}
use Rattle.fort_engine.specs.declared.answer.Limit.{Limit}
use Rattle.fort_engine.specs.declared.answer.EngineFault.{EngineFault}
use Rattle.fort_engine.specs.declared.answer.EngineFault.TheVariants.{Memory, Over}
use Rattle.fort_questions.specs.declared.question.Question.{Question}
use Rattle.fort_questions.specs.declared.question.Question.TheVariants.{Truth, Terms, TermsCertificate, Certificate, Check, Solutions, Confirm, Synth}
use Rattle.fort_run.specs.declared.reply.Reply.{Reply}
use Rattle.fort_run.specs.StatusView.{code_of}
use Rattle.fort_questions.specs.Questions.{tail_of, options_of}
use Rattle.fort_run.specs.Certified.{IsTruth}
use Rattle.fort_run.specs.Limits.{IsLineOf}

-- the certificate that is written, and its verdict is the formula's truth
pub record IsTrueCertificate (reduces : Bool) (system : System) (terms : List Tree) (f : Formula) (status : ℕ) (text : Text) : Type 0 where
  pub written : CertificateVerdict reduces system terms f status text
  pub truth : IsTruth written.certificate.verdict system terms f

-- what comes of the certificate, and a verdict that is certified is the formula's truth
pub record IsTrueOutcome (system : System) (c : certificates.Certificate) (terms : List Tree) (f : Formula) (status : ℕ) (text : Text) : Type 0 where
  pub checked : CheckVerdict system c terms f status text
  pub truth : (verdict : Bool) → checked.outcome ≡ Certified verdict → IsTruth verdict system terms f

-- the certificate of terms that is written, and its claim is right
pub record IsTrueOpenCertificate (reduces : Bool) (system : System) (terms : List Tree) (f : Formula) (status : ℕ) (text : Text) : Type 0 where
  pub written : OpenCertificateVerdict reduces system terms f status text
  pub truth : TellsLeast system terms f written.certificate.claim written.certificate.nodes

-- what comes of a certificate of terms, and what is confirmed is right
pub record IsTrueOpenOutcome (system : System) (c : OpenCertificate) (terms : List Tree) (f : Formula) (code : ℕ) (text : Text) : Type 0 where
  pub checked : ConfirmVerdict system c terms f code text
  pub truth : code ≡ status.positive → SaysTerms system terms f text

abbrev pub VerdictOn : (question : Question) → System → Behind (tail_of question) → List Tree → Formula → ℕ → Text → Type 0
VerdictOn (Truth options) system behind terms f status text = TruthVerdict system terms f status text
VerdictOn (Terms options) system behind terms f status text = WitnessVerdict system terms f status text
VerdictOn (TermsCertificate options) system behind terms f status text = IsTrueOpenCertificate options.reduces system terms f status text
VerdictOn (Certificate options) system behind terms f status text = IsTrueCertificate options.reduces system terms f status text
VerdictOn Check system behind terms f status text = IsTrueOutcome system behind terms f status text
VerdictOn (Solutions options bounds) system behind terms f status text = SolutionsVerdict (as_bounds bounds) system terms f status text
VerdictOn Confirm system behind terms f status text = IsTrueOpenOutcome system behind terms f status text
VerdictOn (Synth options family) system behind terms f status text =
    SynthVerdict (as_options options) (as_family family) system.signature terms f status text

-- the reply has this limit and its line
pub record TellsLimit (states : ℕ) (limit : Limit) (reply : Reply) : Type 0 where
  pub limit_is : reply.limit ≡ Some limit
  pub status_is : code_of reply.status ≡ status.limited
  pub line_is : IsLineOf states limit reply.text.items

-- a fault of deciding is told; none is for want of memory
abbrev pub TellsFault : (states : ℕ) → EngineFault → Reply → Type 0
TellsFault states Memory reply = ⊥
TellsFault states (Over limit) reply = TellsLimit states limit reply

-- a search through a family that is not too large comes to these rules, over whose system the core formula has this limit, and the reply has it, with its line and the rules
pub record StopsAt (options : Options) (family : Family) (system : System) (terms : List Tree) (f : Formula) (rules : List FamilyRule) (limit : Limit)
    (reply : Reply) : Type 0 where
  pub small : IsTooLarge system.signature family.height → ⊥
  pub reached : IsReached options family system.signature terms f rules
  pub is : IsLimit (pattern_system (system_of system.signature rules)) options.reduces (core_of terms f) options.states limit
  pub limit_is : reply.limit ≡ Some limit
  pub status_is : code_of reply.status ≡ status.limited
  pub text_is : reply.text.items ≡ status.limit_line limit.part (as_kind limit.kind) options.states ++ rule_lines system.signature rules

-- the answer to a question about a formula over a system with this behind it, with these ground terms in the formula
pub data IsVerdict (question : Question) (system : System) (behind : Behind (tail_of question)) (terms : List Tree) (f : Formula) (reply : Reply) : Type 0 where
  Limits : (options : Options) → options_of question ≡ Some options → (limit : Limit)
      → IsLimit (pattern_system system) options.reduces (core_of terms f) options.states limit → TellsLimit options.states limit reply
      → IsVerdict question system behind terms f reply
  Says : KeepsCapOf (options_of question) system terms f → VerdictOn question system behind terms f (code_of reply.status) reply.text.items
      → reply.limit ≡ None → IsVerdict question system behind terms f reply
  Stops : (options : _) (family : _) → question ≡ Synth options family → (rules : List FamilyRule) (limit : Limit)
      → StopsAt (as_options options) (as_family family) system terms f rules limit reply → IsVerdict question system behind terms f reply

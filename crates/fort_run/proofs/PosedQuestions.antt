-- A question that is put to a core formula: what its answer, the certificate that is written for it, or its limit says to the question.
use Rattle.std.specs.Prelude.{◌≡◌, ℕ, ◌<◌, Bool, List, map, length, Some, None}
use Rattle.std.specs.List.{AllByRecursion}
use Rattle.std.proofs.Common.{refl, sym, ap, subst, ◌∙◌, arith, ⊎_elim}
use Rattle.std.proofs.lemmas.Bool.{cases_lt}
use Rattle.fort_theory.specs.Trees.{Tree}
use Rattle.fort_theory.specs.Sides.{System}
use Rattle.fort_theory.specs.Patterns.{PatternSystem, pattern_system}
use Rattle.fort_logic.specs.Formulas.{Formula}
use Rattle.fort_logic.specs.FreeNames.{free_names}
use Rattle.fort_theory.specs.Cores.{Core}
use Rattle.fort_logic.specs.KeepsTruth.{KeepsTruth}
use Rattle.fort_theory.specs.Parts.{IsClosed}
use Rattle.fort_theory.specs.PatternStructures.{pattern_structure}
use Rattle.fort_logic.specs.Translation.{core_of}
use Rattle.fort_logic.proofs.FreeNumbers.{core_of-free}
use Rattle.fort_parts.specs.PartColumns.{columns_of}
use Rattle.fort_parts.specs.PartAnswers.{Answer, OfValue, IsAnswerTo}
use Rattle.fort_certificate_theory.specs.CertificateForms.{Version, version_for}
use Rattle.fort_certificate_theory.specs.CertificateText.{certificate_text, CanBeWritten}
use Rattle.fort_certificate.specs.Again.{HasSmallNumbers}
use Rattle.fort_certificate_theory.specs.Written.{IsWritten}
use Rattle.fort_steps.specs.StepView.{as_step}
use Rattle.fort_trace.specs.declared.decide.Recorded.{Recorded}
use Rattle.fort_trace.specs.RecordedView.{as_certificate}
use Rattle.fort_answers.specs.Requests.{Text, Options}
use Rattle.fort_answers.specs.Lines.{positive}
use Rattle.fort_answers.specs.CertificateAnswer.{CertificateVerdict}
use Rattle.fort_answers.specs.FormulaAnswer.{Openness, Closed, Open}
use Rattle.fort_answers.specs.InputAnswer.{Behind}
use Rattle.fort_answers.specs.SystemAnswer.{KeepsCap, KeepsCapOf}
use Rattle.fort_engine.specs.declared.answer.EngineFault.{EngineFault}
use Rattle.fort_engine.specs.declared.answer.EngineFault.TheVariants.{Memory, Over}
use Rattle.fort_engine.specs.declared.answer.Last.{Last}
use Rattle.fort_engine.specs.declared.answer.Last.TheVariants.{Truth as Value}
use Rattle.fort_engine.specs.AnswerView.{as_answer, IfOver, KeepsCapAt, IsLimit}
use Rattle.fort_questions.specs.declared.question.Question.{Question}
use Rattle.fort_run.specs.declared.reply.Reply.{Reply}
use Rattle.fort_run.specs.StatusView.{code_of}
use Rattle.fort_questions.specs.declared.input.Input.{Input}
use Rattle.fort_questions.specs.Inputs.{IsInputOf}
use Rattle.fort_questions.specs.Questions.{openness_of, tail_of, options_of}
use Rattle.fort_run.specs.Certified.{IsTruth}
use Rattle.fort_run.specs.Posed.{IsPosed, Settles, SettlesCore}
use Rattle.fort_run.specs.Ready.{IsLawful, IsAnsweredBy, IsDecidedBy}
use Rattle.fort_run.specs.Verdicts.{IsTrueCertificate, VerdictOn, TellsFault, IsVerdict, Limits, Says}
use Rattle.fort_run.proofs.Deciding.{is_truth}
use Rattle.fort_questions.proofs.Fitting.{number_is}
use Rattle.fort_questions.proofs.FormulaRefusals.{no_items}
use Rattle.fort_run.proofs.TableWitnesses.{columns-names}
use Rattle.fort_run.proofs.WrittenNumbers.{written_numbers}

-- the answer to the core formula
pub answered_by : (openness : Openness) (f : Formula) (system : PatternSystem) (terms : List Tree) (c : Core) (answer : Answer)
    → IsPosed openness f system terms c → IsAnswerTo (pattern_structure system) c answer → IsAnsweredBy f system terms answer
answered_by openness f system terms c answer posed is = record {
  ready = posed.ready;
  keeps = subst (KeepsTruth terms f) posed.is posed.keeps;
  answers = subst (λ k. IsAnswerTo (pattern_structure system) k answer) posed.is is;
}

pub decided_by : (openness : Openness) (f : Formula) (system : PatternSystem) (terms : List Tree) (c : Core) (last : Last) → IsPosed openness f system terms c
    → IsAnswerTo (pattern_structure system) c (as_answer last) → IsDecidedBy f system terms last
decided_by openness f system terms c last posed answer = answered_by openness f system terms c (as_answer last) posed answer

-- no number is free in the core formula of a closed formula
pub closed_core : (f : Formula) (system : PatternSystem) (terms : List Tree) (c : Core) → IsPosed Closed f system terms c → IsClosed c
closed_core f system terms c posed =
    subst IsClosed (sym posed.is) (λ n free.
    let below : n < length (free_names f) = core_of-free terms f n free in
    let none : length (free_names f) ≡ 0 = ap length posed.taken in
    omega arith)

-- some number is free in that of an open one
pub open_columns : (f : Formula) (system : PatternSystem) (terms : List Tree) (c : Core) → IsPosed Open f system terms c → 0 < length (columns_of c)
open_columns f system terms c posed =
    let count : length (columns_of c) ≡ length (free_names f) = ap (λ g. length (columns_of g)) posed.is ∙ columns-names terms f in
    ⊎_elim (λ (some : 0 < length (free_names f)). omega (arith, some, count))
    (λ none. absurd (posed.taken (no_items (free_names f) (omega (arith, none))))) (cases_lt 0 (length (free_names f)))

-- the value of the core formula is the formula's truth
pub value_truth : (f : Formula) (system : PatternSystem) (terms : List Tree) (c : Core) → IsPosed Closed f system terms c → (p : System) → IsLawful p
    → system ≡ pattern_system p → (verdict : Bool) → IsAnswerTo (pattern_structure system) c (OfValue verdict) → IsTruth verdict p terms f
value_truth f system terms c posed p lawful same verdict answer =
    let decided = decided_by Closed f system terms c (Value verdict) posed answer in
    is_truth p lawful f terms (Value verdict) (subst (λ s. IsDecidedBy f s terms (Value verdict)) same decided) posed.taken verdict refl

-- what a recording says, with reduced tables or without, where its text is of the version for so many systems
module _ (reduces : Bool) (f : Formula) (p : System) (system : PatternSystem) (terms : List Tree) (c : Core) (r : Recorded) (number : ℕ) (version : Version)
    (status : ℕ) (text : Text) (done : status ≡ positive) (same : system ≡ pattern_system p) (posed : IsPosed Closed f system terms c)
    (written : (first : ℕ) → IsWritten reduces system c (as_certificate first r)) (numbers : AllByRecursion HasSmallNumbers (map as_step r.steps.items))
    (count : number ≡ length system.rules) (of_number : version ≡ version_for reduces number)
    (spelled : text ≡ certificate_text version r.verdict (map as_step r.steps.items)) where
  certificate_says : CertificateVerdict reduces p terms f status text
  certificate_says =
      let own : IsWritten reduces system (core_of terms f) (as_certificate 0 r) =
      subst (λ k. IsWritten reduces system k (as_certificate 0 r)) posed.is (written 0) in
      let there : IsWritten reduces (pattern_system p) (core_of terms f) (as_certificate 0 r) =
      subst (λ s. IsWritten reduces s (core_of terms f) (as_certificate 0 r)) same own in
      let rules : length (pattern_system p).rules ≡ length p.rules = number_is (length (pattern_system p).rules) (pattern_system p) p refl refl in
      let version_is : version ≡ version_for reduces (length p.rules) = of_number ∙ ap (version_for reduces) (number_is number system p count same) in
      record {
        certificate = as_certificate 0 r;
        written = there;
        small = subst (λ n. AllByRecursion (CanBeWritten (version_for reduces n)) (map as_step r.steps.items)) rules
            (written_numbers reduces (pattern_system p) (core_of terms f) (as_certificate 0 r) there numbers);
        are = record {
          same_status = done;
          same_text = spelled ∙ ap (λ v. certificate_text v r.verdict (map as_step r.steps.items)) version_is;
        };
      }

  -- the same with the truth of its verdict
  pub true_certificate : IsLawful p → IsAnswerTo (pattern_structure system) c (OfValue r.verdict) → IsTrueCertificate reduces p terms f status text
  unfolding certificate_says
  true_certificate lawful answer = record { written = certificate_says; truth = value_truth f system terms c posed p lawful same r.verdict answer }

-- ---- verdicts

module _ (question : Question) (f : Formula) (p : System) (behind : Behind (tail_of question)) (system : PatternSystem) (terms : List Tree) (c : Core)
    (options : Options) (reply : Reply) (asked : options_of question ≡ Some options) (same : system ≡ pattern_system p) (is : c ≡ core_of terms f) where
  -- no part is over the cap
  pub verdict_settles : KeepsCapAt system options.reduces c options.states → VerdictOn question p behind terms f (code_of reply.status) reply.text.items
      → reply.limit ≡ None → IsVerdict question p behind terms f reply
  verdict_settles keeps verdict none =
      let kept : KeepsCap p terms f options = subst (λ s. KeepsCapAt s options.reduces (core_of terms f) options.states) same
      (subst (λ k. KeepsCapAt system options.reduces k options.states) is keeps) in
      Says (subst (λ o. KeepsCapOf o p terms f) (sym asked) kept) verdict none

  -- some part is
  pub limit_settles : (fault : EngineFault) → IfOver fault (IsLimit system options.reduces c options.states) → TellsFault options.states fault reply
      → IsVerdict question p behind terms f reply
  limit_settles Memory over tells = absurd tells
  limit_settles (Over limit) over tells =
      Limits options asked limit (subst (λ s. IsLimit s options.reduces (core_of terms f) options.states limit) same
      (subst (λ k. IsLimit system options.reduces k options.states limit) is over)) tells

-- what is said by the core formula is said over each system that the input is
pub settled : (question asked : Question) (input : Input) (f : Formula) (terms : List Tree) (c : Core) (reply : Reply) → question ≡ asked
    → IsPosed (openness_of question) f input.system terms c
    → ((p : System) (behind : Behind (tail_of asked)) → IsInputOf (tail_of asked) input p behind → SettlesCore asked input.system behind c f reply)
    → Settles question input terms f reply
settled question asked input f terms c reply same posed says =
    subst (λ q. Settles q input terms f reply) (sym same) (λ p behind lawful is.
    says p behind is p terms lawful is.same (subst (λ q. IsPosed (openness_of q) f input.system terms c) same posed))

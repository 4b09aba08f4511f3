-- From what was read to the reply to a question.
use Rattle.std.proofs.Common.{◌≡◌, ℕ, List, refl, sym, subst, ◌∙◌, arith}
use Rattle.std.specs.Prelude.{Option, Some, None, IfSome}
use Rattle.fort_theory.specs.Trees.{Tree}
use Rattle.fort_theory.specs.Sides.{System}
use Rattle.fort_logic.specs.Formulas.{Formula}
use Rattle.fort_certificate_theory.specs.Certificates as certificates
use Rattle.fort_certificate_theory.specs.Checked.{Outcome, Certified, Rejected}
use Rattle.fort_answers.specs.Requests.{Text, Request}
use Rattle.fort_answers.specs.Requests as requests
use Rattle.fort_answers.specs.Lines.{positive, refused, limit_line}
use Rattle.fort_answers.specs.FormulaAnswer.{IsAcceptedAs, IsAcceptedClosed, IsRefusedAs}
use Rattle.fort_answers.specs.FamilyRules.{FamilyRule}
use Rattle.fort_answers.specs.FamilySystems.{system_of}
use Rattle.fort_words.specs.declared.request.Options.{Options as OwnOptions}
use Rattle.fort_words.specs.declared.request.Family.{Family as OwnFamily}
use Rattle.fort_words.specs.RequestView.{as_options, as_family}
use Rattle.fort_engine.specs.declared.answer.Limit.{Limit}
use Rattle.fort_answers.specs.SynthAnswer.{Over}
use Rattle.fort_answers.specs.InputAnswer.{Behind, IsCertifiedInput, IsSignatureInput, IsInputWith, IsInputRefused}
use Rattle.fort_answers.specs.FitAnswer.{FitsSystem, IsUnfit}
use Rattle.fort_answers.specs.SystemAnswer.{Are, FormulaRefused, InputRefused, FormulaUnfit}
use Rattle.fort_answers.specs.SystemAnswer as answers
use Rattle.fort_answers.specs.CheckAnswer.{OwesOutcome}
use Rattle.fort_answers.specs.Answer.{owed, needed}
use Rattle.fort_formulas.specs.KindView.{as_kind}
use Rattle.fort_questions.specs.declared.question.Question.{Question}
use Rattle.fort_questions.specs.declared.question.Question.TheVariants.{Truth, Certificate, Terms, TermsCertificate, Check, Solutions, Confirm, Synth}
use Rattle.fort_run.specs.declared.reply.Reply.{Reply}
use Rattle.fort_questions.specs.declared.refusal.Refusal.{Refusal}
use Rattle.fort_questions.specs.declared.refusal.Refusal.TheVariants as refusals
use Rattle.fort_questions.specs.Refusals.{Refuses}
use Rattle.fort_run.specs.RefusalReplies.{IsRefusal, TellsRefusal}
use Rattle.fort_run.specs.StatusView.{code_of}
use Rattle.fort_questions.specs.Questions.{request_for, openness_of, tail_of, says_of}
use Rattle.fort_run.specs.Certified.{IsTruth, IsCertified}
use Rattle.fort_run.specs.Limits.{HasLimit, OverInput, OverFamily}
use Rattle.fort_run.specs.Replies.{SaysFor, IsReplyTo}
use Rattle.fort_run.specs.Verdicts.{VerdictOn, StopsAt, IsVerdict, Limits, Says, Stops}
use Rattle.fort_run.proofs.CertificateAccepted.{written_accepted}
use Rattle.fort_run.proofs.Deciding.{passes}
use Rattle.fort_run.proofs.OpenAccepted.{told_lines, open_accepted}
use Rattle.fort_run.proofs.QuestionLaws.{owed_to, refused_needs_nothing, is_about, capped_input}

pub are : (status : ℕ) (text : Text) → Are status text status text
are status text = record { same_status = refl; same_text = refl }

-- ---- replies without a limit

pub no_limit : (request : Option Request) (bytes : Text) (r : Reply) → r.limit ≡ None → IfSome r.limit (HasLimit request bytes r.text.items)
no_limit request bytes r none = subst (λ l. IfSome l (HasLimit request bytes r.text.items)) (sym none) tt

pub plain_replies : (request : Option Request) (bytes : Text) (r : Reply) (status : ℕ) (text : Text) → owed request bytes status text
    → (status ≡ positive → SaysFor request bytes text) → code_of r.status ≡ status → r.text.items ≡ text → r.limit ≡ None → IsReplyTo request bytes r
plain_replies request bytes r status text owes says status_is text_is none = record {
  is_owed = subst (λ s. owed request bytes s r.text.items) (sym status_is) (subst (owed request bytes status) (sym text_is) owes);
  says = λ e. subst (SaysFor request bytes) (sym text_is) (says (sym status_is ∙ e));
  limit = no_limit request bytes r none;
}

pub refusal_replies : (request : Option Request) (bytes line : Text) (r : Reply) → owed request bytes refused line → IsRefusal line r
    → IsReplyTo request bytes r
refusal_replies request bytes line r owes is =
    plain_replies request bytes r refused line owes (λ e. absurd (omega arith)) is.status_is is.text_is is.limit_is

-- where the line is owed by which something is refused
pub told_refusal : (request : Option Request) (bytes : Text) (P : Text → Type 0) (refusal : Refusal) (r : Reply)
    → ((line : Text) → P line → owed request bytes refused line) → Refuses P refusal → TellsRefusal refusal r → IsReplyTo request bytes r
told_refusal request bytes P refusals.Memory r owes says tells = absurd tells
told_refusal request bytes P (refusals.Line line) r owes says tells = refusal_replies request bytes line.items r (owes line.items says) tells

-- ---- refusals

module _ (question : Question) (text : Text) where
  pub formula_refused : (bytes line : Text) → IsRefusedAs (openness_of question) text line → owed (Some (request_for question text)) bytes refused line
  formula_refused bytes line says =
      owed_to question text bytes refused line (FormulaRefused (record { refusal = line; is = says; are = are refused line }))

  pub refusal_needs_nothing : (refusal : Refusal) (r : Reply) → Refuses (IsRefusedAs (openness_of question) text) refusal → TellsRefusal refusal r
      → needed (Some (request_for question text)) → ⊥
  refusal_needs_nothing refusals.Memory r says tells is_needed = tells
  refusal_needs_nothing (refusals.Line line) r says tells is_needed = refused_needs_nothing question text line.items says is_needed

  module _ (f : Formula) (accepted : IsAcceptedAs (openness_of question) text f) where
    pub input_refused : (bytes line : Text) → IsInputRefused (tail_of question) bytes line → owed (Some (request_for question text)) bytes refused line
    input_refused bytes line says = owed_to question text bytes refused line (InputRefused f accepted line says (are refused line))

    -- a formula that speaks of more than the system of the input has
    pub unfit : (bytes line : Text) (p : System) (behind : Behind (tail_of question)) → IsInputWith (tail_of question) bytes p behind → IsUnfit text f p line
        → owed (Some (request_for question text)) bytes refused line
    unfit bytes line p behind is says = owed_to question text bytes refused line (FormulaUnfit f accepted p behind is line says (are refused line))

-- ---- verdicts

-- what is said, without its truth
said : (question : Question) (p : System) (behind : Behind (tail_of question)) (terms : List Tree) (f : Formula) (s : ℕ) (t : Text)
    → VerdictOn question p behind terms f s t → says_of question p behind terms f s t
said (Truth options) p behind terms f s t verdict = verdict
said (Certificate options) p behind terms f s t verdict = verdict.written
said (Terms options) p behind terms f s t verdict = verdict
said (TermsCertificate options) p behind terms f s t verdict = verdict.written
said Check p behind terms f s t verdict = verdict.checked
said (Solutions options bounds) p behind terms f s t verdict = verdict
said Confirm p behind terms f s t verdict = verdict.checked
said (Synth options family) p behind terms f s t verdict = verdict

module _ (text bytes : Text) (f : Formula) (accepted : IsAcceptedClosed text f) (p : System) (c : certificates.Certificate) (is : IsCertifiedInput bytes p c)
    (terms : List Tree) (fits : FitsSystem text f p terms) (line : Text) (owes : owed (Some (requests.Check text)) bytes positive line) where
  -- CERTIFIED says the truth
  certified : (o : Outcome) → OwesOutcome o positive line → ((v : _) → o ≡ Certified v → IsTruth v p terms f) → IsCertified text bytes line
  certified (Certified verdict) says truth = record {
    is_owed = owes;
    f = f;
    accepted = accepted;
    system = p;
    begins = record { forms = is.forms; are_forms = is.are_forms; next = is.next; problem = is.problem };
    terms = terms;
    fits = fits;
    verdict = verdict;
    is = truth verdict refl;
    says = says.same_text;
  }
  certified (Rejected form place reason) says truth = let other = says.same_status in absurd (omega arith)

module _ (text bytes : Text) (f : Formula) (p : System) (terms : List Tree) (fits : FitsSystem text f p terms) (t : Text) where
  says_more : (question : Question) (behind : Behind (tail_of question)) → IsAcceptedAs (openness_of question) text f → IsInputWith (tail_of question) bytes p behind
      → VerdictOn question p behind terms f positive t → owed (Some (request_for question text)) bytes positive t
      → SaysFor (Some (request_for question text)) bytes t
  says_more (Truth options) behind accepted is verdict owes = tt
  says_more (Certificate options) behind accepted is verdict owes = record {
    f = f;
    accepted = accepted;
    system = p;
    input = is;
    terms = terms;
    fits = fits;
    verdict = verdict.written.certificate.verdict;
    is = verdict.truth;
    steps = verdict.written.certificate.steps;
    says = verdict.written.are.same_text;
    again = λ short. written_accepted options.reduces text f bytes p terms positive t accepted is fits verdict.written short;
  }
  says_more (Terms options) behind accepted is verdict owes = tt
  says_more (TermsCertificate options) behind accepted is verdict owes =
      let c = verdict.written.certificate in
      let told = told_lines p terms f c.claim c.nodes verdict.truth in
      record {
        f = f;
        accepted = accepted;
        system = p;
        input = is;
        terms = terms;
        fits = fits;
        claim = c.claim;
        steps = c.steps;
        nodes = c.nodes;
        is = verdict.written.are.same_text;
        lines = told.0;
        says = told.1;
        again = λ short. open_accepted options.reduces text f bytes p terms positive t accepted is fits verdict.written told.0 told.2 short;
      }
  says_more Check behind accepted is verdict owes =
      certified text bytes f accepted p behind is terms fits t owes verdict.checked.outcome verdict.checked.owes verdict.truth
  says_more (Solutions options bounds) behind accepted is verdict owes = tt
  says_more Confirm behind accepted is verdict owes = record {
    is_owed = owes;
    f = f;
    accepted = accepted;
    system = p;
    begins = record { forms = is.forms; are_forms = is.are_forms; next = is.next; problem = is.problem };
    terms = terms;
    fits = fits;
    says = verdict.truth refl;
  }
  says_more (Synth options family) behind accepted is verdict owes = tt

-- where a search stops
module _ (text bytes : Text) (f : Formula) (p : System) (terms : List Tree) (r : Reply) (options : OwnOptions) (family : OwnFamily) (rules : List FamilyRule)
    (l : Limit) (fits : FitsSystem text f p terms) (stops : StopsAt (as_options options) (as_family family) p terms f rules l r) where
  abbrev own : Request
  own = requests.Synth (as_options options) (as_family family) text

  stop_there : IsAcceptedClosed text f → IsSignatureInput bytes p → IsReplyTo (Some own) bytes r
  stop_there accepted is =
      let over = passes (system_of p.signature rules) terms f (as_options options) l stops.is in
      let has : HasLimit (Some own) bytes r.text.items l = OverFamily (record {
        options = as_options options;
        family = as_family family;
        formula = text;
        asked = refl;
        f = f;
        accepted = accepted;
        system = p;
        input = is;
        terms = terms;
        fits = fits;
        small = stops.small;
        rules = rules;
        reached = stops.reached;
        is = stops.is;
        text_is = stops.text_is;
      }) in
      record {
        is_owed =
            answers.Says f accepted p tt is terms fits tt
            (Over stops.small rules stops.reached l.part (as_kind l.kind) over (record { same_status = stops.status_is; same_text = stops.text_is }));
        says = λ e. let other = stops.status_is in absurd (omega arith);
        limit = subst (λ o. IfSome o (HasLimit (Some own) bytes r.text.items)) (sym stops.limit_is) has;
      }

  -- for the question that is put
  stop_replies : (question : Question) → question ≡ Synth options family → (behind : Behind (tail_of question)) → IsAcceptedAs (openness_of question) text f
      → IsInputWith (tail_of question) bytes p behind → IsReplyTo (Some (request_for question text)) bytes r
  stop_replies question asked behind accepted is =
      let there = subst (λ q. (b : Behind (tail_of q)) × IsInputWith (tail_of q) bytes p b) asked (behind, is) in
      subst (λ q. IsReplyTo (Some (request_for q text)) bytes r) (sym asked)
      (stop_there (subst (λ q. IsAcceptedAs (openness_of q) text f) asked accepted) there.1)

-- the verdict on an input that has all that the formula speaks of
pub verdict_replies : (question : Question) (text bytes : Text) (f : Formula) (p : System) (behind : Behind (tail_of question)) (terms : List Tree) (r : Reply)
    → IsAcceptedAs (openness_of question) text f → IsInputWith (tail_of question) bytes p behind → FitsSystem text f p terms
    → IsVerdict question p behind terms f r → IsReplyTo (Some (request_for question text)) bytes r
verdict_replies question text bytes f p behind terms r accepted is fits (Limits options asked l shows tells) =
    let over = passes p terms f options l shows in
    let line = limit_line l.part (as_kind l.kind) options.states in
    let has : HasLimit (Some (request_for question text)) bytes r.text.items l = OverInput (record {
      options = options;
      formula = text;
      f = f;
      about = is_about question text options f asked accepted;
      system = p;
      input = capped_input question options bytes p behind asked is;
      terms = terms;
      fits = fits;
      is = shows;
      line_is = tells.line_is;
    }) in
    record {
      is_owed =
          owed_to question text bytes (code_of r.status) r.text.items
          (answers.Limited f accepted p behind is terms fits options asked l.part (as_kind l.kind) over
          (record { same_status = tells.status_is; same_text = tells.line_is }));
      says = λ e. let other = tells.status_is in absurd (omega arith);
      limit = subst (λ o. IfSome o (HasLimit (Some (request_for question text)) bytes r.text.items)) (sym tells.limit_is) has;
    }
verdict_replies question text bytes f p behind terms r accepted is fits (Says keeps verdict none) =
    let s = code_of r.status in
    let t = r.text.items in
    let owes = owed_to question text bytes s t (answers.Says f accepted p behind is terms fits keeps (said question p behind terms f s t verdict)) in
    record {
      is_owed = owes;
      says = λ e. says_more text bytes f p terms fits t question behind accepted is (subst (λ n. VerdictOn question p behind terms f n t) e verdict)
          (subst (λ n. owed (Some (request_for question text)) bytes n t) e owes);
      limit = no_limit (Some (request_for question text)) bytes r none;
    }
verdict_replies question text bytes f p behind terms r accepted is fits (Stops options family asked rules l stops) =
    stop_replies text bytes f p terms r options family rules l fits stops question asked behind accepted is

-- An input as its forms are read: accepted with what stands behind the problem, or refused by the line of its first fault.
use Rattle.std.proofs.Common.{List, [], ◌∷◌, ◌≡◌, ℕ, suc, ◌+◌, ◌<◌, ◌≤◌, ◌++◌, length, refl, ap, subst, ◌∙◌, length-append, arith}
use Rattle.std.specs.Prelude.{Option, Some, None, IfSome, MatchOption}
use Rattle.fort_theory.specs.Sides.{System}
use Rattle.fort_grammar.specs.Text.{BadByte, ExtraClose, Unclosed, TooDeep}
use Rattle.fort_theory.specs.Signatures.{Signature}
use Rattle.fort_grammar.specs.Forms.{Form, Forms, NoForm, MoreForms, AreForms, AreFormsOf, End, Skip, AWord, AList}
use Rattle.fort_grammar.specs.Declarations.{ProblemFault, NoFormat, BadForm, as_list, DeclareEach}
use Rattle.fort_grammar.specs.ProblemForms.{IsProblem, IsFirstProblemFault}
use Rattle.fort_sexpr.specs.FormView.{form_count}
use Rattle.fort_sexpr.specs.Faults.{IsFirstFaultOf}
use Rattle.fort_sexpr.specs.declared.fault.SFault.{SFault}
use Rattle.fort_sexpr.specs.declared.fault.SFault.TheVariants as sfaults
use Rattle.fort_ari.specs.declared.fault.ProblemFault.{ProblemFault as ariFault}
use Rattle.fort_ari.specs.Faults as ari
use Rattle.fort_certificate_theory.specs.Certificates.{Certificate}
use Rattle.fort_certificate_theory.specs.CertificateForms.{IsCertificate}
use Rattle.fort_certificate_theory.specs.CertificateFaults as grammar
use Rattle.fort_certificate_theory.specs.CertificateFaults.{IsFirstCertificateFault}
use Rattle.fort_certificate_theory.specs.OpenCertificates.{OpenCertificate}
use Rattle.fort_certificate_theory.specs.OpenForms.{IsOpenCertificate}
use Rattle.fort_certificate_theory.specs.OpenFaults.{IsFirstOpenFault}
use Rattle.fort_certificate.specs.declared.fault.CertificateFault.{CertificateFault}
use Rattle.fort_certificate.specs.Faults as certificates
use Rattle.fort_answers.specs.Requests.{Text}
use Rattle.fort_answers.specs.Lines.{problem_fault_line, certificate_fault_line}
use Rattle.fort_answers.specs.InputAnswer.{input_limit, Tail, Nothing, ACertificate, AnOpenCertificate, NoRules, IsInput, IsCertifiedInput, IsOpenCertifiedInput, IsSignatureInput, NotPlain, Plain, BeginsPlainly, behind_declarations, IsProblemRefused, IsInputRefused, NoForms, NoProblem, BadTail}
use Rattle.fort_questions.specs.Inputs.{BeginsFor}
use Rattle.fort_questions.specs.Refusals.{SaysTextFault, SaysProblemFault, SaysCertificateFault}

-- the forms of a text, counted
count_of : (forms : Forms) → form_count forms ≡ length (as_list forms)
count_of NoForm = refl
count_of (MoreForms f fs) = ap suc (count_of fs)

-- each form takes a byte at least
forms_within : (bytes : Text) (i j : ℕ) (forms : Forms) → AreForms bytes i j forms → i + form_count forms ≤ j
forms_within bytes i j NoForm End = omega arith
forms_within bytes i j fs (Skip skipped rest) = let r = forms_within bytes (suc i) j fs rest in omega arith
forms_within bytes i j (MoreForms f fs) (AWord {k = k} word rest) = let r = forms_within bytes k j fs rest in let some : i < k = word.some in omega arith
forms_within bytes i j (MoreForms f fs) (AList {k = k} {gs = gs} within opens inner within' closes rest) =
    let r = forms_within bytes (suc k) j fs rest in
    let s = forms_within bytes (suc i) k gs inner in
    omega arith

pub few_forms : (bytes : Text) (forms : Forms) → AreFormsOf bytes forms → form_count forms ≤ length bytes
few_forms bytes forms are = let r = forms_within bytes 0 (length bytes) forms are.stand in omega arith

-- each form declares a symbol
declared_count : (bytes : Text) (fs : List Form) (signature : Signature) → DeclareEach bytes fs signature → length fs ≡ length signature
declared_count bytes [] [] each = refl
declared_count bytes [] (s ∷ ss) each = absurd each
declared_count bytes (f ∷ fs) [] each = absurd each
declared_count bytes (f ∷ fs) (s ∷ ss) each = ap suc (declared_count bytes fs ss each.1)

-- ---- refusals

pub text_refused : (tail : Tail) (bytes : Text) (fault : SFault) (line : Text) → length bytes ≤ input_limit → IsFirstFaultOf bytes fault
    → SaysTextFault fault line → IsInputRefused tail bytes line
text_refused tail bytes sfaults.Memory line short first says = absurd says
text_refused tail bytes (sfaults.BadByte i) line short first says = NoForms short (BadByte i) first says
text_refused tail bytes (sfaults.ExtraClose i) line short first says = NoForms short (ExtraClose i) first says
text_refused tail bytes (sfaults.Unclosed i) line short first says = NoForms short (Unclosed i) first says
text_refused tail bytes (sfaults.TooDeep i) line short first says = NoForms short (TooDeep i) first says

module _ (bytes : Text) (forms : Forms) (short : length bytes ≤ input_limit) (are : AreFormsOf bytes forms) where
  -- the first fault of forms that begin as they have to before a tail
  refused_for : (tail : Tail) → BeginsFor tail bytes (as_list forms) → (x : ProblemFault) → IsFirstProblemFault bytes (as_list forms) x
      → IsProblemRefused tail bytes forms x
  refused_for Nothing begins x first = first
  refused_for ACertificate begins x first = first
  refused_for AnOpenCertificate begins x first = first
  refused_for NoRules begins x first = Plain begins x first

  problem_at_fault : (tail : Tail) → BeginsFor tail bytes (as_list forms) → (fault : Option ProblemFault) (line : Text)
      → IfSome fault (IsFirstProblemFault bytes (as_list forms)) → MatchOption fault ⊥ (λ x. line ≡ problem_fault_line x) → IsInputRefused tail bytes line
  problem_at_fault tail begins None line first says = absurd says
  problem_at_fault tail begins (Some x) line first says = NoProblem short forms are x (refused_for tail begins x first) says

  pub problem_refused : (tail : Tail) → BeginsFor tail bytes (as_list forms) → (fault : ariFault) (line : Text)
      → IfSome (ari.as_fault fault) (IsFirstProblemFault bytes (as_list forms)) → SaysProblemFault fault line → IsInputRefused tail bytes line
  problem_refused tail begins fault line first says = problem_at_fault tail begins (ari.as_fault fault) line first says

  -- those that begin otherwise
  pub format_refused : (tail : Tail) (line : Text) → (BeginsFor tail bytes (as_list forms) → ⊥) → line ≡ problem_fault_line NoFormat
      → IsInputRefused tail bytes line
  format_refused Nothing line otherwise says = absurd (otherwise tt)
  format_refused ACertificate line otherwise says = absurd (otherwise tt)
  format_refused AnOpenCertificate line otherwise says = absurd (otherwise tt)
  format_refused NoRules line otherwise says = NoProblem short forms are NoFormat (NotPlain otherwise) says

  -- ---- what stands behind a problem

  module _ (system : System) (next : ℕ) (problem : IsProblem bytes (as_list forms) system next) where
    pub form_refused : (line : Text) → next < form_count forms → line ≡ problem_fault_line (BadForm next) → IsInputRefused Nothing bytes line
    form_refused line below says = let count = count_of forms in BadTail short forms are system next problem (omega arith, says)

    certificate_at_fault : (fault : Option grammar.CertificateFault) (line : Text)
        → IfSome fault (IsFirstCertificateFault bytes (length system.rules) (as_list forms) next) → MatchOption fault ⊥ (λ x. line ≡ certificate_fault_line x)
        → IsInputRefused ACertificate bytes line
    certificate_at_fault None line first says = absurd says
    certificate_at_fault (Some x) line first says = BadTail short forms are system next problem (x, first, says)

    pub certificate_refused : (fault : CertificateFault) (line : Text)
        → IfSome (certificates.as_fault fault) (IsFirstCertificateFault bytes (length system.rules) (as_list forms) next) → SaysCertificateFault fault line
        → IsInputRefused ACertificate bytes line
    certificate_refused fault line first says = certificate_at_fault (certificates.as_fault fault) line first says

    open_at_fault : (fault : Option grammar.CertificateFault) (line : Text) → IfSome fault (IsFirstOpenFault bytes (as_list forms) next)
        → MatchOption fault ⊥ (λ x. line ≡ certificate_fault_line x) → IsInputRefused AnOpenCertificate bytes line
    open_at_fault None line first says = absurd says
    open_at_fault (Some x) line first says = BadTail short forms are system next problem (x, first, says)

    pub open_certificate_refused : (fault : CertificateFault) (line : Text) → IfSome (certificates.as_fault fault) (IsFirstOpenFault bytes (as_list forms) next)
        → SaysCertificateFault fault line → IsInputRefused AnOpenCertificate bytes line
    open_certificate_refused fault line first says = open_at_fault (certificates.as_fault fault) line first says

    -- a form behind the declarations
    pub rule_refused : (line : Text) → BeginsPlainly bytes (as_list forms) → behind_declarations system < form_count forms
        → line ≡ problem_fault_line (BadForm (behind_declarations system)) → IsInputRefused NoRules bytes line
    rule_refused line begins below says = let count = count_of forms in BadTail short forms are system next problem (begins, omega arith, says)

    -- none behind them
    pub signature_alone : BeginsPlainly bytes (as_list forms) → form_count forms ≤ behind_declarations system → IsSignatureInput bytes system
    signature_alone begins end =
        let all : length (as_list forms) ≡ suc (length problem.declarations + (length problem.rules + length problem.behind)) =
        ap length problem.parts.is ∙ ap suc (length-append problem.declarations (problem.rules ++ problem.behind) ∙ ap (λ n. length problem.declarations + n) (length-append problem.rules problem.behind)) in
        let is_next : next ≡ length problem.declarations + length problem.rules + 1 = problem.next_is in
        let declared : length problem.declarations ≡ length system.signature = declared_count bytes problem.declarations system.signature problem.declares.each in
        let count = count_of forms in
        let same : next ≡ length (as_list forms) = omega (arith, all, is_next, declared, end, count) in
        record {
          short = short;
          forms = forms;
          are_forms = are;
          plain = begins;
          problem = subst (λ n. IsProblem bytes (as_list forms) system n) same problem;
          no_rules = omega (arith, all, is_next, declared, end, count);
        }

    -- a problem that ends with its text
    pub nothing_behind : form_count forms ≤ next → IsInput bytes system
    nothing_behind end =
        let all : length (as_list forms) ≡ suc (length problem.declarations + (length problem.rules + length problem.behind)) =
        ap length problem.parts.is ∙ ap suc (length-append problem.declarations (problem.rules ++ problem.behind) ∙ ap (λ n. length problem.declarations + n) (length-append problem.rules problem.behind)) in
        let is_next : next ≡ length problem.declarations + length problem.rules + 1 = problem.next_is in
        let same : next ≡ length (as_list forms) = omega (arith, count_of forms) in
        record {
          short = short;
          problem = record { forms = forms; are_forms = are; problem = subst (λ n. IsProblem bytes (as_list forms) system n) same problem };
        }

    pub certificate_behind : (c : Certificate) → IsCertificate bytes (length system.rules) (as_list forms) next c → IsCertifiedInput bytes system c
    certificate_behind c is = record { short = short; forms = forms; are_forms = are; next = next; problem = problem; certificate = is }

    pub open_certificate_behind : (c : OpenCertificate) → IsOpenCertificate bytes (as_list forms) next c → IsOpenCertifiedInput bytes system c
    open_certificate_behind c is = record { short = short; forms = forms; are_forms = are; next = next; problem = problem; certificate = is }

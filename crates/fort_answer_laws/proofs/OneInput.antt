-- An input is one system with what has to stand behind it, or is refused by one line, and not both.
use Rattle.std.proofs.Common.{◌≡◌, ◌≤◌, List, ℕ, length, refl, sym, ap, subst, ◌∙◌, arith}
use Rattle.fort_theory.specs.Sides.{System}
use Rattle.fort_grammar.specs.Forms.{Forms, AreFormsOf}
use Rattle.fort_grammar.specs.Declarations.{ProblemFault, as_list}
use Rattle.fort_grammar.specs.ProblemForms.{IsProblem}
use Rattle.fort_grammar.proofs.OneReading.{same_forms}
use Rattle.fort_ari.proofs.OneAnswer.{problem_without_fault}
use Rattle.fort_ari.proofs.OneFault.{first_fault_unique}
use Rattle.fort_ari.proofs.OneProblem.{IsProblem-unique}
use Rattle.fort_certificate_theory.specs.Certificates.{Certificate}
use Rattle.fort_certificate_theory.specs.CertificateForms.{IsCertificate}
use Rattle.fort_certificate_theory.proofs.OneCertificate.{certificate_one}
use Rattle.fort_certificate_theory.proofs.OneFault.{certificate_not_bad, first_fault_one}
use Rattle.fort_certificate_theory.specs.OpenCertificates.{OpenCertificate}
use Rattle.fort_certificate_theory.specs.OpenForms.{IsOpenCertificate}
use Rattle.fort_certificate_theory.proofs.OneOpenCertificate.{IsOpenCertificate-one, IsFirstOpenFault-one, IsOpenCertificate-not_bad}
use Rattle.fort_answers.specs.Said.{BeginsWith}
use Rattle.fort_answers.specs.Lines.{problem_fault_line, certificate_fault_line}
use Rattle.fort_answers.specs.InputAnswer.{input_limit, Tail, Behind, Nothing, ACertificate, AnOpenCertificate, NoRules, BeginsPlainly, IsCertifiedInput, IsOpenCertifiedInput, IsInputWith, IsFirstPlainFault, NotPlain, Plain, IsProblemRefused, IsTailRefused, IsInputRefused, TooLong, NoForms, NoProblem, BadTail}
use Rattle.fort_answer_laws.proofs.InputStages.{Refusal, Long, BadText, Read, stages_one, stages_read}

-- ---- what was read, whatever has to stand behind the problem

-- the forms of an input that is accepted, and the problem that the first of them are
record IsReadAs (bytes : List ℕ) (system : System) : Type 0 where
  short : length bytes ≤ input_limit
  forms : Forms
  are_forms : AreFormsOf bytes forms
  next : ℕ
  problem : IsProblem bytes (as_list forms) system next

abbrev read_as : (tail : Tail) (bytes : List ℕ) (system : System) (behind : Behind tail) → IsInputWith tail bytes system behind → IsReadAs bytes system
read_as Nothing bytes system behind is = record {
  short = is.short;
  forms = is.problem.forms;
  are_forms = is.problem.are_forms;
  next = length (as_list is.problem.forms);
  problem = is.problem.problem;
}
read_as ACertificate bytes system behind is =
    record { short = is.short; forms = is.forms; are_forms = is.are_forms; next = is.next; problem = is.problem }
read_as AnOpenCertificate bytes system behind is =
    record { short = is.short; forms = is.forms; are_forms = is.are_forms; next = is.next; problem = is.problem }
read_as NoRules bytes system behind is =
    record { short = is.short; forms = is.forms; are_forms = is.are_forms; next = length (as_list is.forms); problem = is.problem }

-- the first of them are the system
pub begins_with : (tail : Tail) (bytes : List ℕ) (system : System) (behind : Behind tail) → IsInputWith tail bytes system behind → BeginsWith bytes system
begins_with tail bytes system behind is =
    let read = read_as tail bytes system behind is in
    record { forms = read.forms; are_forms = read.are_forms; next = read.next; problem = read.problem }

-- the forms of such an input are a problem
pub problem_with : (tail : Tail) (bytes : List ℕ) (system : System) (behind : Behind tail) → IsInputWith tail bytes system behind
    → (forms : Forms) × (next : ℕ) × IsProblem bytes (as_list forms) system next
problem_with tail bytes system behind is = let read = read_as tail bytes system behind is in (read.forms, read.next, read.problem)

-- ---- one line refuses an input

-- why forms are no problem with the right tail
data Reading (tail : Tail) (bytes : List ℕ) (forms : Forms) (line : List ℕ) : Type 0 where
  Faulty : (fault : ProblemFault) → IsProblemRefused tail bytes forms fault → line ≡ problem_fault_line fault → Reading tail bytes forms line
  Tailed : (system : System) (next : ℕ) → IsProblem bytes (as_list forms) system next → IsTailRefused tail bytes forms system next line
      → Reading tail bytes forms line

module _ (bytes : List ℕ) (forms : Forms) where
  -- a problem that is read twice is the same
  moved : (P : System → ℕ → Type 0) (s s' : System) (n n' : ℕ) → IsProblem bytes (as_list forms) s n → IsProblem bytes (as_list forms) s' n' → P s' n' → P s n
  moved P s s' n n' p p' h =
      let same = IsProblem-unique bytes (as_list forms) s s' n n' p p' in
      subst (λ k. P s k) (sym same.1) (subst (λ x. P x n') (sym same.0) h)

  plain_fault_one : (x y : ProblemFault) → IsFirstPlainFault bytes (as_list forms) x → IsFirstPlainFault bytes (as_list forms) y → x ≡ y
  plain_fault_one x y (NotPlain not) (NotPlain nor) = refl
  plain_fault_one x y (NotPlain not) (Plain plain fault first) = absurd (not plain)
  plain_fault_one x y (Plain plain fault first) (NotPlain not) = absurd (not plain)
  plain_fault_one x y (Plain plain fault first) (Plain plain' fault' first') = first_fault_unique bytes (as_list forms) x y first first'

  fault_one : (tail : Tail) (x y : ProblemFault) → IsProblemRefused tail bytes forms x → IsProblemRefused tail bytes forms y → x ≡ y
  fault_one Nothing x y first first' = first_fault_unique bytes (as_list forms) x y first first'
  fault_one ACertificate x y first first' = first_fault_unique bytes (as_list forms) x y first first'
  fault_one AnOpenCertificate x y first first' = first_fault_unique bytes (as_list forms) x y first first'
  fault_one NoRules x y first first' = plain_fault_one x y first first'

  -- a problem that begins plainly has no fault
  plain_without_fault : (s : System) (n : ℕ) (x : ProblemFault) → IsProblem bytes (as_list forms) s n → BeginsPlainly bytes (as_list forms)
      → IsFirstPlainFault bytes (as_list forms) x → ⊥
  plain_without_fault s n x p plain (NotPlain not) = not plain
  plain_without_fault s n x p plain (Plain also fault first) = problem_without_fault bytes (as_list forms) s n x p first

  -- nor have forms whose tail is refused
  tailed_without_fault : (tail : Tail) (s : System) (n : ℕ) (x : ProblemFault) (line : List ℕ) → IsProblem bytes (as_list forms) s n
      → IsTailRefused tail bytes forms s n line → IsProblemRefused tail bytes forms x → ⊥
  tailed_without_fault Nothing s n x line p is first = problem_without_fault bytes (as_list forms) s n x p first
  tailed_without_fault ACertificate s n x line p is first = problem_without_fault bytes (as_list forms) s n x p first
  tailed_without_fault AnOpenCertificate s n x line p is first = problem_without_fault bytes (as_list forms) s n x p first
  tailed_without_fault NoRules s n x line p is first = plain_without_fault s n x p is.0 first

  tail_one : (tail : Tail) (s : System) (n : ℕ) (line line' : List ℕ) → IsTailRefused tail bytes forms s n line → IsTailRefused tail bytes forms s n line'
      → line ≡ line'
  tail_one Nothing s n line line' is is' = is.1 ∙ sym is'.1
  tail_one ACertificate s n line line' is is' =
      is.2 ∙ (ap certificate_fault_line (first_fault_one bytes (length s.rules) (as_list forms) n is.0 is'.0 is.1 is'.1) ∙ sym is'.2)
  tail_one AnOpenCertificate s n line line' is is' =
      is.2 ∙ (ap certificate_fault_line (IsFirstOpenFault-one bytes (as_list forms) n is.0 is'.0 is.1 is'.1) ∙ sym is'.2)
  tail_one NoRules s n line line' is is' = is.2 ∙ sym is'.2

  Reading-unique : (tail : Tail) (line line' : List ℕ) → Reading tail bytes forms line → Reading tail bytes forms line' → line ≡ line'
  Reading-unique tail line line' (Faulty x first e) (Faulty y first' e') = e ∙ (ap problem_fault_line (fault_one tail x y first first') ∙ sym e')
  Reading-unique tail line line' (Faulty x first e) (Tailed s n p is) = absurd (tailed_without_fault tail s n x line' p is first)
  Reading-unique tail line line' (Tailed s n p is) (Faulty y first' e') = absurd (tailed_without_fault tail s n y line p is first')
  Reading-unique tail line line' (Tailed s n p is) (Tailed s' n' p' is') =
      tail_one tail s n line line' is (moved (λ x k. IsTailRefused tail bytes forms x k line') s s' n n' p p' is')

staged : (tail : Tail) (bytes line : List ℕ) → IsInputRefused tail bytes line → Refusal (Reading tail bytes) bytes line
staged tail bytes line (TooLong over e) = Long over e
staged tail bytes line (NoForms short fault first e) = BadText short fault first e
staged tail bytes line (NoProblem short forms are fault first e) = Read short forms are (Faulty fault first e)
staged tail bytes line (BadTail short forms are system next p is) = Read short forms are (Tailed system next p is)

pub IsInputRefused-unique : (tail : Tail) (bytes line line' : List ℕ) → IsInputRefused tail bytes line → IsInputRefused tail bytes line' → line ≡ line'
IsInputRefused-unique tail bytes line line' one other =
    stages_one (Reading tail bytes) bytes line line' (λ forms. Reading-unique bytes forms tail line line') (staged tail bytes line one) (staged tail bytes line' other)

-- ---- none refuses one that is accepted

-- the tail of an input that is accepted is not refused
tail_right : (tail : Tail) (bytes line : List ℕ) (system : System) (behind : Behind tail) (is : IsInputWith tail bytes system behind)
    → let read = read_as tail bytes system behind is in IsTailRefused tail bytes read.forms system read.next line → ⊥
tail_right Nothing bytes line system behind is r = let below = r.0 in omega arith
tail_right ACertificate bytes line system behind is r =
    certificate_not_bad bytes (length system.rules) (as_list is.forms) is.next behind r.0 is.certificate r.1
tail_right AnOpenCertificate bytes line system behind is r =
    IsOpenCertificate-not_bad bytes (as_list is.forms) is.next behind r.0 is.certificate r.1
tail_right NoRules bytes line system behind is r = let below = r.1 in let all = is.no_rules in omega arith

-- nor is its problem
problem_right : (tail : Tail) (bytes : List ℕ) (system : System) (behind : Behind tail) (is : IsInputWith tail bytes system behind) (x : ProblemFault)
    → IsProblemRefused tail bytes (read_as tail bytes system behind is).forms x → ⊥
problem_right Nothing bytes system behind is x first =
    problem_without_fault bytes (as_list is.problem.forms) system (length (as_list is.problem.forms)) x is.problem.problem first
problem_right ACertificate bytes system behind is x first = problem_without_fault bytes (as_list is.forms) system is.next x is.problem first
problem_right AnOpenCertificate bytes system behind is x first = problem_without_fault bytes (as_list is.forms) system is.next x is.problem first
problem_right NoRules bytes system behind is x first = plain_without_fault bytes is.forms system (length (as_list is.forms)) x is.problem is.plain first

module _ (tail : Tail) (bytes line : List ℕ) (system : System) (behind : Behind tail) (is : IsInputWith tail bytes system behind) where
  not_read : Reading tail bytes (read_as tail bytes system behind is).forms line → ⊥
  not_read (Faulty x first e) = problem_right tail bytes system behind is x first
  not_read (Tailed s n p r) =
      let read = read_as tail bytes system behind is in
      tail_right tail bytes line system behind is
      (moved bytes read.forms (λ x k. IsTailRefused tail bytes read.forms x k line) system s read.next n read.problem p r)

  pub IsInputWith-not_refused : IsInputRefused tail bytes line → ⊥
  IsInputWith-not_refused r =
      let read = read_as tail bytes system behind is in
      not_read (stages_read (Reading tail bytes) bytes line read.forms read.short read.are_forms (staged tail bytes line r))

-- ---- it is accepted as one

systems_one : (bytes : List ℕ) (s s' : System) → IsReadAs bytes s → IsReadAs bytes s' → s' ≡ s
systems_one bytes s s' is is' =
    let same = same_forms bytes is'.forms is.forms is'.are_forms.stand is.are_forms.stand in
    let there = subst (λ fs. IsProblem bytes (as_list fs) s' is'.next) same is'.problem in
    (IsProblem-unique bytes (as_list is.forms) s' s is'.next is.next there is.problem).0

certificates_one : (bytes : List ℕ) (s s' : System) (c c' : Certificate) → IsCertifiedInput bytes s c → IsCertifiedInput bytes s' c' → c' ≡ c
certificates_one bytes s s' c c' is is' =
    let same = same_forms bytes is'.forms is.forms is'.are_forms.stand is.are_forms.stand in
    let problem = subst (λ fs. IsProblem bytes (as_list fs) s' is'.next) same is'.problem in
    let one = IsProblem-unique bytes (as_list is.forms) s' s is'.next is.next problem is.problem in
    let there = subst (λ (x : System). IsCertificate bytes (length x.rules) (as_list is.forms) is.next c') one.0
    (subst (λ n. IsCertificate bytes (length s'.rules) (as_list is.forms) n c') one.1
    (subst (λ fs. IsCertificate bytes (length s'.rules) (as_list fs) is'.next c') same is'.certificate)) in
    certificate_one bytes (length s.rules) (as_list is.forms) is.next c' c there is.certificate

open_certificates_one : (bytes : List ℕ) (s s' : System) (c c' : OpenCertificate) → IsOpenCertifiedInput bytes s c
    → IsOpenCertifiedInput bytes s' c' → c' ≡ c
open_certificates_one bytes s s' c c' is is' =
    let same = same_forms bytes is'.forms is.forms is'.are_forms.stand is.are_forms.stand in
    let problem = subst (λ fs. IsProblem bytes (as_list fs) s' is'.next) same is'.problem in
    let one = IsProblem-unique bytes (as_list is.forms) s' s is'.next is.next problem is.problem in
    let there = subst (λ n. IsOpenCertificate bytes (as_list is.forms) n c') one.1
    (subst (λ fs. IsOpenCertificate bytes (as_list fs) is'.next c') same is'.certificate) in
    IsOpenCertificate-one bytes (as_list is.forms) is.next c' c there is.certificate

behind_one : (tail : Tail) (bytes : List ℕ) (s s' : System) (b b' : Behind tail) → IsInputWith tail bytes s b → IsInputWith tail bytes s' b' → b' ≡ b
behind_one Nothing bytes s s' b b' is is' = refl
behind_one ACertificate bytes s s' b b' is is' = certificates_one bytes s s' b b' is is'
behind_one AnOpenCertificate bytes s s' b b' is is' = open_certificates_one bytes s s' b b' is is'
behind_one NoRules bytes s s' b b' is is' = refl

pub IsInputWith-unique : (tail : Tail) (bytes : List ℕ) (system system' : System) (behind behind' : Behind tail) → IsInputWith tail bytes system behind
    → IsInputWith tail bytes system' behind' → (system' ≡ system) × (behind' ≡ behind)
IsInputWith-unique tail bytes system system' behind behind' is is' = (
  systems_one bytes system system' (read_as tail bytes system behind is) (read_as tail bytes system' behind' is'),
  behind_one tail bytes system system' behind behind' is is',
)

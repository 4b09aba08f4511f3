-- Inside: an input as it was read: a system, and what stands behind it.
use Rattle.std.specs.Prelude.{◌≡◌, List, ℕ}
use Rattle.fort_theory.specs.Sides.{System}
use Rattle.fort_theory.specs.Patterns.{pattern_system}
use Rattle.fort_steps.specs.CertificateView.{as_certificate}
use Rattle.fort_steps.specs.OpenView.{as_open}
use Rattle.fort_grammar.specs.Forms.{Form}
use Rattle.fort_answers.specs.InputAnswer.{Tail, Behind, Nothing, ACertificate, AnOpenCertificate, NoRules, BeginsPlainly, IsInputWith}
use Rattle.fort_questions.specs.declared.input.Behind.{Behind as OwnBehind}
use Rattle.fort_questions.specs.declared.input.Behind.TheVariants as own
use Rattle.fort_questions.specs.declared.input.Input.{Input}

-- the forms begin as they have to before such a tail
abbrev pub BeginsFor : Tail → (bytes : List ℕ) → List Form → Type 0
BeginsFor Nothing bytes forms = Unit {0}
BeginsFor ACertificate bytes forms = Unit {0}
BeginsFor AnOpenCertificate bytes forms = Unit {0}
BeginsFor NoRules bytes forms = BeginsPlainly bytes forms

-- what was read behind the problem is this
abbrev pub IsBehind : (tail : Tail) → OwnBehind → Behind tail → Type 0
IsBehind Nothing own.Nothing behind = Unit {0}
IsBehind Nothing (own.Certificate c) behind = ⊥
IsBehind Nothing (own.OpenCertificate c) behind = ⊥
IsBehind ACertificate own.Nothing behind = ⊥
IsBehind ACertificate (own.Certificate c) behind = as_certificate c ≡ behind
IsBehind ACertificate (own.OpenCertificate c) behind = ⊥
IsBehind AnOpenCertificate own.Nothing behind = ⊥
IsBehind AnOpenCertificate (own.Certificate c) behind = ⊥
IsBehind AnOpenCertificate (own.OpenCertificate c) behind = as_open c ≡ behind
IsBehind NoRules own.Nothing behind = Unit {0}
IsBehind NoRules (own.Certificate c) behind = ⊥
IsBehind NoRules (own.OpenCertificate c) behind = ⊥

-- the bytes are the system with that behind it
pub record IsReadBehind (tail : Tail) (bytes : List ℕ) (system : System) (read : OwnBehind) : Type 0 where
  pub behind : Behind tail
  pub is : IsInputWith tail bytes system behind
  pub behind_is : IsBehind tail read behind

-- the system has these pairs of patterns, and this stands behind it
pub record IsInputOf (tail : Tail) (input : Input) (system : System) (behind : Behind tail) : Type 0 where
  pub same : input.system ≡ pattern_system system
  pub behind_is : IsBehind tail input.behind behind

-- the bytes are that
pub record IsReadFrom (tail : Tail) (bytes : List ℕ) (input : Input) : Type 0 where
  pub system : System
  pub behind : Behind tail
  pub is : IsInputWith tail bytes system behind
  pub input_is : IsInputOf tail input system behind

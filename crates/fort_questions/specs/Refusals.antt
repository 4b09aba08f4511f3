-- Inside: which line says which fault of the program's readers. No line says want of memory.
use Rattle.std.specs.Prelude.{◌≡◌, List, ℕ, MatchOption}
use Rattle.fort_theory.specs.Signatures.{Signature}
use Rattle.fort_formula_grammar.specs.FormulaText.{Ground}
use Rattle.fort_answers.specs.FitAnswer.{IsFirstWithoutTerm}
use Rattle.fort_grammar.specs.Text.{BadByte, ExtraClose, Unclosed, TooDeep}
use Rattle.fort_sexpr.specs.declared.fault.SFault.{SFault}
use Rattle.fort_sexpr.specs.declared.fault.SFault.TheVariants as faults
use Rattle.fort_ari.specs.declared.fault.ProblemFault.{ProblemFault}
use Rattle.fort_ari.specs.Faults.{as_fault}
use Rattle.fort_formula_parser.specs.declared.fault.FFault.{FFault}
use Rattle.fort_formula_parser.specs.Faults.{as_formula_fault}
use Rattle.fort_certificate.specs.declared.fault.CertificateFault.{CertificateFault}
use Rattle.fort_certificate.specs.Faults as certificates
use Rattle.fort_answers.specs.Lines.{formula_fault_line, formula_term, text_fault_line, problem_fault_line, certificate_fault_line}
use Rattle.fort_questions.specs.declared.refusal.Refusal.{Refusal}
use Rattle.fort_questions.specs.declared.refusal.Refusal.TheVariants as refusal

abbrev pub SaysTextFault : SFault → List ℕ → Type 0
SaysTextFault faults.Memory line = ⊥
SaysTextFault (faults.BadByte i) line = line ≡ text_fault_line (BadByte i)
SaysTextFault (faults.ExtraClose i) line = line ≡ text_fault_line (ExtraClose i)
SaysTextFault (faults.Unclosed i) line = line ≡ text_fault_line (Unclosed i)
SaysTextFault (faults.TooDeep i) line = line ≡ text_fault_line (TooDeep i)

abbrev pub SaysProblemFault : ProblemFault → List ℕ → Type 0
SaysProblemFault fault line = MatchOption (as_fault fault) ⊥ (λ f. line ≡ problem_fault_line f)

abbrev pub SaysCertificateFault : CertificateFault → List ℕ → Type 0
SaysCertificateFault fault line = MatchOption (certificates.as_fault fault) ⊥ (λ f. line ≡ certificate_fault_line f)

abbrev pub SaysFormulaFault : FFault → List ℕ → Type 0
SaysFormulaFault fault line = MatchOption (as_formula_fault fault) ⊥ (λ f. line ≡ formula_fault_line f)

-- the line is one by which something is refused; want of memory says nothing
abbrev pub Refuses : (List ℕ → Type 0) → Refusal → Type 0
Refuses P refusal.Memory = Unit {0}
Refuses P (refusal.Line line) = P line.items

-- the line names the first braces in which no ground term stands
pub record NamesTerm (signature : Signature) (grounds : List Ground) (line : List ℕ) : Type 0 where
  pub braces : Ground
  pub first : IsFirstWithoutTerm signature grounds braces
  pub says : line ≡ formula_term braces.at

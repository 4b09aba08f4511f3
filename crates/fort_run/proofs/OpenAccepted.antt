-- A certificate that is written for an open formula over a system is accepted behind that system, with its claim and its terms.
use Rattle.std.proofs.Common.{◌≡◌, ℕ, ◌≤◌, Bool, List, ◌∷◌, ◌++◌, map, length, refl, sym, ◌∙◌, subst}
use Rattle.std.specs.Prelude.{Some, codes}
use Rattle.fort_theory.specs.Trees.{Tree}
use Rattle.fort_theory.specs.Sides.{System}
use Rattle.fort_theory.specs.Patterns.{pattern_system}
use Rattle.fort_logic.specs.Formulas.{Formula}
use Rattle.fort_logic.specs.FreeNames.{free_names}
use Rattle.fort_logic.specs.Translation.{core_of}
use Rattle.fort_tables.specs.Entries.{Entry}
use Rattle.fort_tables.specs.Tables.{Table}
use Rattle.fort_grammar.specs.Declarations.{as_list}
use Rattle.fort_grammar.specs.ProblemForms.{BeginsOtherwise, IsProblem}
use Rattle.fort_certificate.proofs.OpenAgain.{open_behind_again}
use Rattle.fort_certificate_theory.specs.OpenCertificates.{Claim, Found, Empty, OpenCertificate}
use Rattle.fort_certificate_theory.specs.OpenAgain.{IsOpenReadAgain}
use Rattle.fort_certificate_theory.specs.OpenChecked.{Confirmed, last_of}
use Rattle.fort_certificate_theory.specs.OpenWritten.{IsOpenWritten, IsWrittenClaim, LeastFound, NoneFound}
use Rattle.fort_certificate_theory.proofs.LastNodes.{last_node}
use Rattle.fort_certificate_theory.proofs.WrittenInOrder.{written_in_order}
use Rattle.fort_answers.specs.Requests.{Text, Confirm}
use Rattle.fort_answers.specs.Lines.{positive}
use Rattle.fort_answers.specs.FormulaAnswer.{Open, IsAcceptedAs}
use Rattle.fort_answers.specs.InputAnswer.{Nothing, IsInput, IsOpenCertifiedInput, input_limit}
use Rattle.fort_answers.specs.FitAnswer.{FitsSystem}
use Rattle.fort_answers.specs.OpenCertificateAnswer.{OpenCertificateVerdict}
use Rattle.fort_answers.specs.ConfirmAnswer.{certified_witness_line, certified_none_line, OwesOpenOutcome, SaysFound, SaysNone}
use Rattle.fort_answers.specs.Witnesses.{bindings}
use Rattle.fort_answers.specs.SystemAnswer.{Says}
use Rattle.fort_answers.specs.Answer.{owed}
use Rattle.fort_answer_laws.proofs.TermTuples.{terms_in}
use Rattle.fort_run.specs.Confirmed.{SaysLeast, TellsLeast, TellsClaim}
use Rattle.fort_run.proofs.CertificateAccepted.{begins_behind}
use Rattle.fort_run.proofs.DecidedInputs.{decided_input}
use Rattle.fort_run.proofs.LinearRules.{IsInputWith-system}
use Rattle.fort_answer_laws.proofs.LongerTexts.{problem_too}
use Rattle.fort_run.proofs.SmallSteps.{steps_small}

-- what `confirm` owes where a certificate with these nodes is in order with its claim
pub record OwesLines (system : System) (f : Formula) (claim : Claim) (nodes : List Entry) (lines : Text) : Type 0 where
  pub owes : (c : OpenCertificate) → c.nodes ≡ nodes → OwesOpenOutcome system f c positive lines (Confirmed claim)

owes_found : (system : System) (f : Formula) (nodes : List Entry) (ts : List Tree) → last_of nodes ≡ map Some ts
    → OwesLines system f Found nodes (certified_witness_line ++ bindings system.signature (free_names f) ts)
owes_found system f nodes ts last = record {
  owes =
      λ c same. SaysFound ts (subst (λ ns. last_of ns ≡ map Some ts) (sym same) last) (record { same_status = refl; same_text = refl });
}

owes_empty : (system : System) (f : Formula) (nodes : List Entry) → OwesLines system f Empty nodes certified_none_line
owes_empty system f nodes = record { owes = λ c same. SaysNone (record { same_status = refl; same_text = refl }) }

-- the lines of a claim that tells the least terms
pub told_lines : (system : System) (terms : List Tree) (f : Formula) (claim : Claim) (nodes : List Entry) → TellsLeast system terms f claim nodes
    → (lines : Text) × SaysLeast system terms f claim lines × OwesLines system f claim nodes lines
told_lines system terms f Found nodes tells = (
  certified_witness_line ++ bindings system.signature (free_names f) tells.0,
  (tells.0, tells.1, refl),
  owes_found system f nodes tells.0 tells.2,
)
told_lines system terms f Empty nodes tells = (certified_none_line, (tells, refl), owes_empty system f nodes)

-- those of a claim that is written
pub written_lines : (system : System) (f : Formula) (table : Table) (nodes : List Entry) (claim : Claim) → IsWrittenClaim table nodes claim
    → (lines : Text) × TellsClaim claim lines × OwesLines system f claim nodes lines
written_lines system f table nodes Found (LeastFound t least are) =
    let one = terms_in table.signature t least.full least.tuple.grounded in
    let last = (last_node table.signature table.columns t nodes are).last ∙ one.2 in
    let lines = bindings system.signature (free_names f) one.0 in
    (certified_witness_line ++ lines, (lines, refl), owes_found system f nodes one.0 last)
written_lines system f table nodes Empty (NoneFound none empty) = (certified_none_line, refl, owes_empty system f nodes)

-- Result: behind an LF
pub open_accepted : (reduces : Bool) (formula : Text) (f : Formula) (bytes : Text) (system : System) (terms : List Tree) (s : ℕ) (text : Text)
    → IsAcceptedAs Open formula f → IsInput bytes system → FitsSystem formula f system terms
    → (v : OpenCertificateVerdict reduces system terms f s text) (lines : Text)
    → OwesLines system f v.certificate.claim v.certificate.nodes lines → length (bytes ++ 10 ∷ text) ≤ input_limit
    → owed (Some (Confirm formula)) (bytes ++ 10 ∷ text) positive lines
open_accepted reduces formula f bytes system terms s text accepted input fits v lines says short =
    let c = v.certificate in
    let forms = input.problem.forms in
    let whole = bytes ++ 10 ∷ text in
    let core = core_of terms f in
    let d : OpenCertificate = record { first = length (as_list forms); claim = c.claim; steps = c.steps; nodes = c.nodes } in
    let again = subst (λ t. IsOpenReadAgain (bytes ++ 10 ∷ t) forms d) (sym v.are.same_text)
    (open_behind_again c.claim c.steps c.nodes (steps_small c.steps v.small_steps) v.small_nodes bytes forms input.problem.are_forms) in
    let is = again.certificate in
    let otherwise : (word : List ℕ) → (codes "certificate" ≡ word → ⊥) → BeginsOtherwise whole word again.others =
    λ word other. begins_behind whole (as_list again.forms) (as_list forms) again.others _ is.header (codes "certificate") _ word again.behind is.split is.headed other in
    let problem = problem_too bytes (10 ∷ text) forms system again.others input.problem.are_forms input.problem.problem
    (otherwise (codes "fun") (λ e. absurd cc)) (otherwise (codes "rule") (λ e. absurd cc)) in
    let input_is : IsOpenCertifiedInput whole system d = record {
      short = short;
      forms = again.forms;
      are_forms = again.are_forms;
      next = length (as_list forms);
      problem = subst (λ fs. IsProblem whole fs system (length (as_list forms))) (sym again.behind) problem;
      certificate = is;
    } in
    let written : IsOpenWritten reduces (pattern_system system) core d =
    record { table = v.written.table; steps_are = v.written.steps_are; claim_is = v.written.claim_is } in
    let lawful = IsInputWith-system Nothing bytes system tt input in
    let decided = decided_input Open Nothing formula f bytes system tt terms accepted input fits in
    Says f accepted system d input_is terms fits tt (record {
      outcome = Confirmed c.claim;
      has = written_in_order reduces (pattern_system system) lawful core decided d written;
      owes = says.owes d refl;
    })

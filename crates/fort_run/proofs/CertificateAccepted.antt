-- A certificate that is written for a formula over a system is accepted behind that system, with its verdict.
use Rattle.std.proofs.Common.{◌≡◌, ℕ, ◌≤◌, List, ◌∷◌, ◌++◌, length, drop, refl, ap, sym, ◌∙◌, subst}
use Rattle.std.specs.Prelude.{Some, Option, Bool, codes}
use Rattle.std.proofs.Math.Seq.{drop-append_seam}
use Rattle.fort_theory.specs.Trees.{Tree}
use Rattle.fort_theory.specs.Sides.{System}
use Rattle.fort_theory.specs.Patterns.{pattern_system}
use Rattle.fort_logic.specs.Formulas.{Formula}
use Rattle.fort_logic.specs.Translation.{core_of}
use Rattle.fort_grammar.specs.Forms.{Form}
use Rattle.fort_grammar.specs.Declarations.{as_list, word_of, AreWords, IsListOfWords, IsHeaded}
use Rattle.fort_grammar.specs.ProblemForms.{BeginsOtherwise, IsProblem}
use Rattle.fort_certificate_theory.specs.Certificates.{Certificate}
use Rattle.fort_certificate_theory.specs.CertificateForms.{version_for}
use Rattle.fort_certificate_theory.specs.CertificateAgain.{IsReadAgain}
use Rattle.fort_certificate_texts.proofs.Again.{behind_again}
use Rattle.fort_certificate_theory.specs.Checked.{Certified}
use Rattle.fort_certificate_theory.specs.Written.{IsWritten}
use Rattle.fort_certificate_theory.proofs.WrittenLaws.{IsInOrder-written}
use Rattle.fort_answers.specs.Requests.{Text, Check}
use Rattle.fort_answers.specs.Lines.{positive}
use Rattle.fort_answers.specs.FormulaAnswer.{IsAcceptedClosed}
use Rattle.fort_answers.specs.InputAnswer.{IsInput, IsCertifiedInput, input_limit}
use Rattle.fort_answers.specs.FitAnswer.{FitsSystem}
use Rattle.fort_answers.specs.CertificateAnswer.{CertificateVerdict}
use Rattle.fort_answers.specs.CheckAnswer.{certified_line}
use Rattle.fort_answers.specs.SystemAnswer.{Says}
use Rattle.fort_answers.specs.Answer.{owed}
use Rattle.fort_answer_laws.proofs.LongerTexts.{problem_too}

first_word : (bytes : List ℕ) (f : Form) (fs : List Form) (word : List ℕ) (words : List (List ℕ)) → AreWords bytes (f ∷ fs) (word ∷ words)
    → word_of bytes f ≡ Some word
first_word bytes f fs word words h = h.0

-- the form has one first word
headed_same : (bytes : List ℕ) (f : Form) (head word : List ℕ) (words : List (List ℕ)) → IsListOfWords bytes f (head ∷ words) → IsHeaded bytes word f → head ≡ word
headed_same bytes f head word words l a =
    let same : l.elements ≡ a.first ∷ a.others = cc in
    let there : word_of bytes a.first ≡ Some head = first_word bytes a.first a.others head words (subst (λ fs. AreWords bytes fs (head ∷ words)) same l.words_are) in
    let both : ◌≡◌ {A = Option (List ℕ)} (Some head) (Some word) = sym there ∙ a.head in cc

-- forms behind others begin otherwise than with a word that is not that of their first one
pub begins_behind : (bytes : List ℕ) (forms front others more : List Form) (header : Form) (head : List ℕ) (words : List (List ℕ)) (word : List ℕ)
    → forms ≡ front ++ others → drop (length front) forms ≡ header ∷ more → IsListOfWords bytes header (head ∷ words) → (head ≡ word → ⊥)
    → BeginsOtherwise bytes word others
begins_behind bytes forms front others more header head words word behind split headed other =
    let are : others ≡ header ∷ more = sym (drop-append_seam front others) ∙ (ap (drop (length front)) (sym behind) ∙ split) in
    subst (BeginsOtherwise bytes word) (sym are) (λ a. other (headed_same bytes header head word words headed a))

-- result: behind an LF
pub written_accepted : (reduces : Bool) (formula : Text) (f : Formula) (bytes : Text) (system : System) (terms : List Tree) (s : ℕ) (text : Text) → IsAcceptedClosed formula f
    → IsInput bytes system → FitsSystem formula f system terms → (v : CertificateVerdict reduces system terms f s text)
    → length (bytes ++ 10 ∷ text) ≤ input_limit → owed (Some (Check formula)) (bytes ++ 10 ∷ text) positive (certified_line v.certificate.verdict)
written_accepted reduces formula f bytes system terms s text accepted input fits v short =
    let c = v.certificate in
    let number = length system.rules in
    let forms = input.problem.forms in
    let whole = bytes ++ 10 ∷ text in
    let again = subst (λ t. IsReadAgain (bytes ++ 10 ∷ t) number forms (record { first = length (as_list forms); verdict = c.verdict; steps = c.steps }))
    (sym v.are.same_text) (behind_again number (version_for reduces number) bytes forms c.verdict c.steps input.problem.are_forms (reduces, refl) v.small) in
    let d : Certificate = record { first = length (as_list forms); verdict = c.verdict; steps = c.steps } in
    let is = again.certificate in
    let otherwise : (word : List ℕ) → (codes "certificate" ≡ word → ⊥) → BeginsOtherwise whole word again.others =
    λ word other. begins_behind whole (as_list again.forms) (as_list forms) again.others is.others is.header (codes "certificate") _ word again.behind is.split is.headed other in
    let problem = problem_too bytes (10 ∷ text) forms system again.others input.problem.are_forms input.problem.problem
    (otherwise (codes "fun") (λ e. absurd cc)) (otherwise (codes "rule") (λ e. absurd cc)) in
    let input_is : IsCertifiedInput whole system d = record {
      short = short;
      forms = again.forms;
      are_forms = again.are_forms;
      next = length (as_list forms);
      problem = subst (λ fs. IsProblem whole fs system (length (as_list forms))) (sym again.behind) problem;
      certificate = is;
    } in
    let again_written : IsWritten reduces (pattern_system system) (core_of terms f) d = record {
      parts = v.written.parts;
      parts_are = v.written.parts_are;
      made = v.written.made;
      steps = v.written.steps;
      verdict = v.written.verdict;
    } in
    Says f accepted system d input_is terms fits tt (record {
      outcome = Certified c.verdict;
      has = IsInOrder-written reduces (pattern_system system) (core_of terms f) d again_written;
      owes = record { same_status = refl; same_text = refl };
    })

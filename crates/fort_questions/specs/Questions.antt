-- Inside: which request a question about a formula is, what one that words ask keeps, and what is owed to it.
use Rattle.std.specs.Prelude.{ℕ, true, false, List, Option, Some, None}
use Rattle.fort_theory.specs.Trees.{Tree}
use Rattle.fort_theory.specs.Sides.{System}
use Rattle.fort_logic.specs.Formulas.{Formula}
use Rattle.fort_words.specs.RequestView.{as_options, as_bounds, as_family}
use Rattle.fort_answers.specs.Requests.{Text, Options, Request, Decide, Witness}
use Rattle.fort_answers.specs.Requests as requests
use Rattle.fort_answers.specs.PossibleRequests.{AreBoundsInRange, IsFamilyInRange}
use Rattle.fort_answers.specs.FormulaAnswer as formulas
use Rattle.fort_answers.specs.FormulaAnswer.{Openness}
use Rattle.fort_answers.specs.InputAnswer as inputs
use Rattle.fort_answers.specs.InputAnswer.{Tail, Behind}
use Rattle.fort_answers.specs.SystemAnswer.{Inquiry}
use Rattle.fort_answers.specs.DecideAnswer.{TruthVerdict}
use Rattle.fort_answers.specs.CertificateAnswer.{CertificateVerdict}
use Rattle.fort_answers.specs.WitnessAnswer.{WitnessVerdict}
use Rattle.fort_answers.specs.CheckAnswer.{CheckVerdict}
use Rattle.fort_answers.specs.SolutionsAnswer.{SolutionsVerdict}
use Rattle.fort_answers.specs.OpenCertificateAnswer.{OpenCertificateVerdict}
use Rattle.fort_answers.specs.ConfirmAnswer.{ConfirmVerdict}
use Rattle.fort_answers.specs.SynthAnswer.{SynthVerdict}
use Rattle.fort_questions.specs.declared.question.Openness.{Openness as OwnOpenness}
use Rattle.fort_questions.specs.declared.question.Openness.TheVariants as openness
use Rattle.fort_questions.specs.declared.question.Question.{Question}
use Rattle.fort_questions.specs.declared.question.Question.TheVariants.{Truth, Certificate, Terms, TermsCertificate, Check, Solutions, Confirm, Synth}
use Rattle.fort_questions.specs.declared.question.Tail.{Tail as OwnTail}
use Rattle.fort_questions.specs.declared.question.Tail.TheVariants as tail

abbrev pub as_openness : OwnOpenness → Openness
as_openness openness.Any = formulas.Any
as_openness openness.Closed = formulas.Closed
as_openness openness.Open = formulas.Open

abbrev pub as_tail : OwnTail → Tail
as_tail tail.Nothing = inputs.Nothing
as_tail tail.Certificate = inputs.ACertificate
as_tail tail.OpenCertificate = inputs.AnOpenCertificate
as_tail tail.NoRules = inputs.NoRules

abbrev pub request_for : Question → (formula : Text) → Request
request_for (Truth options) formula = Decide (as_options options) false formula
request_for (Certificate options) formula = Decide (as_options options) true formula
request_for (Terms options) formula = Witness (as_options options) false formula
request_for (TermsCertificate options) formula = Witness (as_options options) true formula
request_for Check formula = requests.Check formula
request_for (Solutions options bounds) formula = requests.Solutions (as_options options) (as_bounds bounds) formula
request_for Confirm formula = requests.Confirm formula
request_for (Synth options family) formula = requests.Synth (as_options options) (as_family family) formula

-- what a question that words ask keeps
abbrev pub CanBePut : Question → Type 0
CanBePut (Truth options) = Unit {0}
CanBePut (Certificate options) = Unit {0}
CanBePut (Terms options) = Unit {0}
CanBePut (TermsCertificate options) = Unit {0}
CanBePut Check = Unit {0}
CanBePut (Solutions options bounds) = AreBoundsInRange (as_options options) (as_bounds bounds)
CanBePut Confirm = Unit {0}
CanBePut (Synth options family) = IsFamilyInRange (as_family family)

-- what is owed to that request, which is proved

abbrev pub openness_of : Question → Openness
openness_of (Truth options) = formulas.Closed
openness_of (Certificate options) = formulas.Closed
openness_of (Terms options) = formulas.Any
openness_of (TermsCertificate options) = formulas.Open
openness_of Check = formulas.Closed
openness_of (Solutions options bounds) = formulas.Open
openness_of Confirm = formulas.Open
openness_of (Synth options family) = formulas.Closed

abbrev pub tail_of : Question → Tail
tail_of (Truth options) = inputs.Nothing
tail_of (Certificate options) = inputs.Nothing
tail_of (Terms options) = inputs.Nothing
tail_of (TermsCertificate options) = inputs.Nothing
tail_of Check = inputs.ACertificate
tail_of (Solutions options bounds) = inputs.Nothing
tail_of Confirm = inputs.AnOpenCertificate
tail_of (Synth options family) = inputs.NoRules

abbrev pub options_of : Question → Option Options
options_of (Truth options) = Some (as_options options)
options_of (Certificate options) = Some (as_options options)
options_of (Terms options) = Some (as_options options)
options_of (TermsCertificate options) = Some (as_options options)
options_of Check = None
options_of (Solutions options bounds) = Some (as_options options)
options_of Confirm = None
options_of (Synth options family) = None

abbrev pub says_of : (question : Question) → System → Behind (tail_of question) → List Tree → Formula → ℕ → Text → Type 0
says_of (Truth options) system behind terms f status text = TruthVerdict system terms f status text
says_of (Certificate options) system behind terms f status text = CertificateVerdict options.reduces system terms f status text
says_of (Terms options) system behind terms f status text = WitnessVerdict system terms f status text
says_of (TermsCertificate options) system behind terms f status text = OpenCertificateVerdict options.reduces system terms f status text
says_of Check system behind terms f status text = CheckVerdict system behind terms f status text
says_of (Solutions options bounds) system behind terms f status text = SolutionsVerdict (as_bounds bounds) system terms f status text
says_of Confirm system behind terms f status text = ConfirmVerdict system behind terms f status text
says_of (Synth options family) system behind terms f status text =
    SynthVerdict (as_options options) (as_family family) system.signature terms f status text

abbrev pub inquiry_of : Question → (formula : Text) → Inquiry
inquiry_of question formula = record {
  formula = formula;
  openness = openness_of question;
  tail = tail_of question;
  options = options_of question;
  says = says_of question;
}

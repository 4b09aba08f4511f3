-- To believe: the one status and text that the program owes to words and bytes: the usage text where the words ask nothing, else what the request owes.
use Rattle.std.specs.Prelude.{◌≡◌, ℕ, List, Option, Some, None}
use Rattle.fort_logic.specs.Formulas.{Formula}
use Rattle.fort_answers.specs.Requests.{Text, Options, Request, Decide, Witness, Check, Sample, Solutions, Confirm, Synth}
use Rattle.fort_answers.specs.CommandGrammar.{request_of}
use Rattle.fort_answers.specs.Lines.{usage, usage_text}
use Rattle.fort_answers.specs.FormulaAnswer.{IsAcceptedAs}
use Rattle.fort_answers.specs.SystemAnswer.{Are, Inquiry, IsRefusedEarly, IsOwedTo}
use Rattle.fort_answers.specs.DecideAnswer.{decide_inquiry}
use Rattle.fort_answers.specs.WitnessAnswer.{witness_inquiry}
use Rattle.fort_answers.specs.SolutionsAnswer.{solutions_inquiry}
use Rattle.fort_answers.specs.SampleAnswer.{SampleAnswer}
use Rattle.fort_answers.specs.CheckAnswer.{check_inquiry}
use Rattle.fort_answers.specs.ConfirmAnswer.{confirm_inquiry}
use Rattle.fort_answers.specs.SynthAnswer.{synth_inquiry}

-- ---- by request

-- what is owed: an answer for which no input is read, or one about a formula over an input
pub data Owing : Type 1 where
  WithoutInput : (answer : ℕ → Text → Type 0) → Owing
  About : Inquiry → Owing

-- to words that are no request
abbrev pub OwesUsage : ℕ → Text → Type 0
OwesUsage status text = Are status text usage usage_text

-- to a request, or to words that are none
abbrev pub owing : Option Request → Owing
owing None = WithoutInput OwesUsage
owing (Some (Decide options certificate formula)) = About (decide_inquiry options certificate formula)
owing (Some (Witness options certificate formula)) = About (witness_inquiry options certificate formula)
owing (Some (Check formula)) = About (check_inquiry formula)
owing (Some (Sample n)) = WithoutInput (SampleAnswer n)
owing (Some (Solutions options bounds formula)) = About (solutions_inquiry options bounds formula)
owing (Some (Confirm formula)) = About (confirm_inquiry formula)
owing (Some (Synth options family formula)) = About (synth_inquiry options family formula)

-- the status and the text are owed whatever the input is
abbrev pub IsOwedEarly : Owing → ℕ → Text → Type 0
IsOwedEarly (WithoutInput answer) status text = answer status text
IsOwedEarly (About inquiry) status text = IsRefusedEarly inquiry status text

-- they are owed for these bytes
abbrev pub IsOwed : Owing → (bytes : Text) → ℕ → Text → Type 0
IsOwed (WithoutInput answer) bytes status text = answer status text
IsOwed (About inquiry) bytes status text = IsOwedTo inquiry bytes status text

-- the input is read
abbrev pub ReadsInput : Owing → Type 0
ReadsInput (WithoutInput answer) = ⊥
ReadsInput (About inquiry) = (f : Formula) × IsAcceptedAs inquiry.openness inquiry.formula f

-- the parts of this formula, whose text it is, have to keep the cap of these options
abbrev pub DecidesAbout : Owing → Options → Text → Formula → Type 0
DecidesAbout (WithoutInput answer) options text f = ⊥
DecidesAbout (About inquiry) options text f =
    (inquiry.options ≡ Some options) × (inquiry.formula ≡ text) × IsAcceptedAs inquiry.openness inquiry.formula f

abbrev pub owed_early : Option Request → ℕ → Text → Type 0
owed_early request status text = IsOwedEarly (owing request) status text

abbrev pub owed : Option Request → (bytes : Text) → ℕ → Text → Type 0
owed request bytes status text = IsOwed (owing request) bytes status text

abbrev pub needed : Option Request → Type 0
needed request = ReadsInput (owing request)

abbrev pub IsAbout : Option Request → Options → Text → Formula → Type 0
IsAbout request options text f = DecidesAbout (owing request) options text f

-- ---- by words

abbrev pub EarlyAnswer : List Text → ℕ → Text → Type 0
EarlyAnswer words status text = owed_early (request_of words) status text

abbrev pub Answer : List Text → Text → ℕ → Text → Type 0
Answer words bytes status text = owed (request_of words) bytes status text

-- the words ask something for which the input is read
abbrev pub NeedsInput : List Text → Type 0
NeedsInput words = needed (request_of words)

abbrev pub NeedsNoInput : List Text → Type 0
NeedsNoInput words = NeedsInput words → ⊥

-- what is owed for the bytes that a source tells; for one that tells none, for some bytes

abbrev pub OwesTold : Option Request → Option Text → ℕ → Text → Type 0
OwesTold request (Some bytes) status text = owed request bytes status text
OwesTold request None status text = (bytes : Text) × owed request bytes status text

abbrev pub AnswerFor : List Text → Option Text → ℕ → Text → Type 0
AnswerFor words told status text = OwesTold (request_of words) told status text

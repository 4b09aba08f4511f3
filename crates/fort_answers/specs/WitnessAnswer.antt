-- To believe: what `witness` asks of a formula over an input, and what it says: the least terms for its free variables that satisfy it, in the order of tuples, or that there are none; or where one is asked for, a certificate of that.
use Rattle.std.specs.Prelude.{ℕ, Bool, true, false, List, ◌++◌, Some}
use Rattle.fort_theory.specs.Trees.{Tree}
use Rattle.fort_theory.specs.Sides.{System}
use Rattle.fort_logic.specs.Formulas.{Formula}
use Rattle.fort_logic.specs.FreeNames.{free_names}
use Rattle.fort_logic.specs.Truth.{IsFalseOf}
use Rattle.fort_answers.specs.Requests.{Text, Options}
use Rattle.fort_answers.specs.Lines.{positive, negative, witness_line, none_line}
use Rattle.fort_answers.specs.FormulaAnswer.{Openness, Any, Open}
use Rattle.fort_answers.specs.InputAnswer.{Nothing}
use Rattle.fort_answers.specs.SystemAnswer.{Are, Inquiry}
use Rattle.fort_answers.specs.Witnesses.{AreLeastWitnesses, bindings}
use Rattle.fort_answers.specs.OpenCertificateAnswer.{OpenCertificateVerdict}

-- the least terms that satisfy the formula, or that it is false whatever its variables are
pub data WitnessVerdict (system : System) (terms : List Tree) (f : Formula) (status : ℕ) (text : Text) : Type 0 where
  Found : (ts : List Tree) → AreLeastWitnesses system terms f ts → Are status text positive (witness_line ++ bindings system.signature (free_names f) ts)
      → WitnessVerdict system terms f status text
  NotFound : IsFalseOf system terms f → Are status text negative none_line → WitnessVerdict system terms f status text

-- a certificate of that in place of it, where one is asked for
abbrev pub WitnessAnswerOf : (certificate reduces : Bool) → System → List Tree → Formula → ℕ → Text → Type 0
WitnessAnswerOf false reduces system terms f status text = WitnessVerdict system terms f status text
WitnessAnswerOf true reduces system terms f status text = OpenCertificateVerdict reduces system terms f status text

-- only of an open formula there is a certificate of terms
abbrev pub witness_openness : (certificate : Bool) → Openness
witness_openness false = Any
witness_openness true = Open

-- what `witness` asks of a formula
abbrev pub witness_inquiry : Options → (certificate : Bool) → (formula : Text) → Inquiry
witness_inquiry options certificate formula =
    record {
      formula = formula;
      openness = witness_openness certificate;
      tail = Nothing;
      options = Some options;
      says = λ system behind terms f status text. WitnessAnswerOf certificate options.reduces system terms f status text;
    }

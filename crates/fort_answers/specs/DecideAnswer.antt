-- To believe: what `decide` asks of a formula over an input, and what it says: whether the formula is true of the system, or where one is asked for a certificate of that.
use Rattle.std.specs.Prelude.{ℕ, Bool, true, false, List, Some}
use Rattle.fort_theory.specs.Trees.{Tree}
use Rattle.fort_theory.specs.Sides.{System}
use Rattle.fort_logic.specs.Formulas.{Formula}
use Rattle.fort_logic.specs.Truth.{IsTrueOf, IsFalseOf}
use Rattle.fort_answers.specs.Requests.{Text, Options}
use Rattle.fort_answers.specs.Lines.{positive, negative, yes_line, no_line}
use Rattle.fort_answers.specs.FormulaAnswer.{Closed}
use Rattle.fort_answers.specs.InputAnswer.{Nothing}
use Rattle.fort_answers.specs.SystemAnswer.{Are, Inquiry}
use Rattle.fort_answers.specs.CertificateAnswer.{CertificateVerdict}

-- whether the formula is true of the system
pub data TruthVerdict (system : System) (terms : List Tree) (f : Formula) (status : ℕ) (text : Text) : Type 0 where
  Yes : IsTrueOf system terms f → Are status text positive yes_line → TruthVerdict system terms f status text
  No : IsFalseOf system terms f → Are status text negative no_line → TruthVerdict system terms f status text

-- a certificate of that in place of it, where one is asked for
abbrev pub DecideVerdict : (certificate reduces : Bool) → System → List Tree → Formula → ℕ → Text → Type 0
DecideVerdict false reduces system terms f status text = TruthVerdict system terms f status text
DecideVerdict true reduces system terms f status text = CertificateVerdict reduces system terms f status text

-- what `decide` asks of a closed formula
abbrev pub decide_inquiry : Options → (certificate : Bool) → (formula : Text) → Inquiry
decide_inquiry options certificate formula =
    record {
      formula = formula;
      openness = Closed;
      tail = Nothing;
      options = Some options;
      says = λ system behind terms f status text. DecideVerdict certificate options.reduces system terms f status text;
    }

-- To believe: what `sample` owes for a size: for each of seven properties whether the made problem of this size has it, where no part of what the property says is over the cap, else the first part that is.
use Rattle.std.specs.Prelude.{◌≡◌, ℕ, false, List, [], ◌∷◌, ◌++◌, codes, decimal}
use Rattle.fort_theory.specs.Sides.{System}
use Rattle.fort_logic.specs.Formulas.{Property, Cr, Wcr, Scr, Wn, Unr, Unc, Nfp, Has}
use Rattle.fort_theory.specs.Kinds.{Kind}
use Rattle.fort_logic.specs.Truth.{IsTrueOf, IsFalseOf}
use Rattle.fort_formula_grammar.specs.Tokens.{property_text}
use Rattle.fort_answers.specs.Requests.{Text, Options}
use Rattle.fort_answers.specs.Lines.{positive, line, yes_line, no_line, limit_line}
use Rattle.fort_answers.specs.SystemAnswer.{Are, PassesCap, KeepsCap}
use Rattle.fort_answers.specs.MadeProblem.{made_system}

-- the cap on each part of each property
abbrev pub sample_cap : ℕ
sample_cap = 10000

-- no table is reduced
abbrev pub sample_options : Options
sample_options = record { states = sample_cap; reduces = false }

-- in the order of their lines
abbrev pub sample_properties : List Property
sample_properties = Cr ∷ Wcr ∷ Scr ∷ Wn ∷ Unr ∷ Unc ∷ Nfp ∷ []

-- what is said of one property of a system with one index
pub data PropertyVerdict (system : System) (property : Property) (verdict : Text) : Type 0 where
  Over : (k : ℕ) (kind : Kind) → PassesCap system [] (Has property 1) sample_options k kind → verdict ≡ limit_line k kind sample_cap
      → PropertyVerdict system property verdict
  Yes : KeepsCap system [] (Has property 1) sample_options → IsTrueOf system [] (Has property 1) → verdict ≡ yes_line
      → PropertyVerdict system property verdict
  No : KeepsCap system [] (Has property 1) sample_options → IsFalseOf system [] (Has property 1) → verdict ≡ no_line
      → PropertyVerdict system property verdict

-- the property's name and what is said of it
pub record IsPropertyLine (system : System) (property : Property) (text : Text) : Type 0 where
  pub verdict : Text
  pub says : PropertyVerdict system property verdict
  pub is : text ≡ property_text property ++ (codes " " ++ verdict)

-- a line for each of these, in their order
abbrev pub ArePropertyLines : System → List Property → Text → Type 0
ArePropertyLines system [] text = text ≡ []
ArePropertyLines system (p ∷ ps) text = (first rest : Text) × IsPropertyLine system p first × ArePropertyLines system ps rest × (text ≡ first ++ rest)

abbrev pub sample_line : (size : ℕ) → Text
sample_line size = line (codes "sample " ++ decimal size)

pub record SampleAnswer (size status : ℕ) (text : Text) : Type 0 where
  pub lines : Text
  pub are_lines : ArePropertyLines (made_system size) sample_properties lines
  pub are : Are status text positive (sample_line size ++ lines)

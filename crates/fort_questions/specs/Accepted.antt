-- Inside: a formula as it was read, and a formula that is read beside a system.
use Rattle.std.specs.Prelude.{◌≡◌, ℕ, ◌<◌, ◌^◌, List, length, map}
use Rattle.fort_theory.specs.Sides as theory
use Rattle.fort_theory.specs.Patterns.{PatternSystem, pattern_system}
use Rattle.fort_logic.specs.Mentions.{HasPlacesBelow}
use Rattle.fort_formula_grammar.specs.FormulaText.{AreGroundsOf}
use Rattle.fort_formulas.specs.FormulaView.{as_formula}
use Rattle.fort_formulas.specs.NumbersNeeded.{numbers_needed}
use Rattle.fort_formula_parser.specs.declared.parsed.Parsed.{Parsed}
use Rattle.fort_formula_parser.specs.ParsedView.{as_ground, AreShort}
use Rattle.fort_answers.specs.FormulaAnswer.{Openness, IsAcceptedAs}

-- the text is this formula, which is taken, with these ground terms
pub record IsParsedAs (openness : Openness) (text : List ℕ) (parsed : Parsed) : Type 0 where
  pub accepted : IsAcceptedAs openness text (as_formula parsed.formula)
  pub grounds : AreGroundsOf text (map as_ground parsed.grounds.items)

-- what holds of each text that was read
pub record IsRead (openness : Openness) (parsed : Parsed) : Type 0 where
  pub text : List ℕ
  pub is : IsParsedAs openness text parsed
  pub short : AreShort parsed.grounds.items
  pub places : HasPlacesBelow (length parsed.grounds.items) (as_formula parsed.formula)
  pub small : numbers_needed (as_formula parsed.formula) < 2 ^ 32

-- for each text in which the formula's ground terms are written, and each system with these pairs of patterns
abbrev pub Beside : Parsed → PatternSystem → (List ℕ → theory.System → Type 0) → Type 0
Beside parsed system P =
    (text : List ℕ) (p : theory.System) → AreGroundsOf text (map as_ground parsed.grounds.items) → system ≡ pattern_system p → P text p

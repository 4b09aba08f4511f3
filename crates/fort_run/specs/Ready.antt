-- Inside: a formula that was accepted, over a system that has all that it speaks of, and what deciding its core formula shows.
use Rattle.std.specs.Prelude.{◌≡◌, true, ℕ, ◌<◌, ◌^◌, List, Contains, All}
use Rattle.fort_theory.specs.Trees.{Tree}
use Rattle.fort_theory.specs.Signatures.{IsGround, HasConstant}
use Rattle.fort_theory.specs.Sides.{System, IsLinearSeparated, IsIndexOf, at_index}
use Rattle.fort_theory.specs.Patterns.{PatternSystem}
use Rattle.fort_logic.specs.Formulas.{Formula}
use Rattle.fort_theory.specs.RightGround.{HasRightGroundPairsAt}
use Rattle.fort_logic.specs.Mentions.{indices, HasTermsFor, has_expression}
use Rattle.fort_logic.specs.Terminations.{terminations, AreAll}
use Rattle.fort_logic.specs.Translation.{IsFormulaTooWide, core_of}
use Rattle.fort_logic.specs.KeepsTruth.{KeepsTruth}
use Rattle.fort_theory.specs.PatternStructures.{pattern_structure}
use Rattle.fort_formulas.specs.NumbersNeeded.{numbers_needed}
use Rattle.fort_parts.specs.DecidedCores.{AreFewRules}
use Rattle.fort_parts.specs.PartAnswers.{Answer, IsAnswerTo}
use Rattle.fort_engine.specs.AnswerView.{as_answer}
use Rattle.fort_engine.specs.declared.answer.Last.{Last}

-- what every system that is asked about keeps: a constant, and rules that are linear and variable-separated
pub record IsLawful (system : System) : Type 0 where
  pub constant : HasConstant system.signature
  pub separated : All (All IsLinearSeparated) system.rules

-- each index has few rules, as expressions ask
abbrev pub HaveFewRules : PatternSystem → Type 0
HaveFewRules system = (index : ℕ) → AreFewRules (at_index index system.rules)

-- not too wide, with a ground term for each that is written in it, with indices of the system alone, with few rules of each index where
-- it has an expression, and with right-ground rules at each index of an SN
pub record IsReady (f : Formula) (system : PatternSystem) (terms : List Tree) : Type 0 where
  pub small : numbers_needed f < 2 ^ 32
  pub narrow : IsFormulaTooWide f → ⊥
  pub has_terms : HasTermsFor f terms
  pub grounded : All (IsGround system.signature) terms
  pub within : (index : ℕ) → Contains (indices f) index → IsIndexOf system.rules index
  pub few : has_expression f ≡ true → HaveFewRules system
  pub right_ground : AreAll (HasRightGroundPairsAt system) (terminations f)

-- the answer to the core formula of a formula that is ready
pub record IsAnsweredBy (f : Formula) (system : PatternSystem) (terms : List Tree) (answer : Answer) : Type 0 where
  pub ready : IsReady f system terms
  pub keeps : KeepsTruth terms f (core_of terms f)
  pub answers : IsAnswerTo (pattern_structure system) (core_of terms f) answer

abbrev pub IsDecidedBy : Formula → PatternSystem → List Tree → Last → Type 0
IsDecidedBy f system terms last = IsAnsweredBy f system terms (as_answer last)

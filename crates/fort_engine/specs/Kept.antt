-- To believe: what is kept of the answers: right ones, whose states tell when tuples are alike, or interchangeable where tables are reduced.
use Rattle.std.specs.Prelude.{◌≡◌, ℕ, ◌<◌, ◌≤◌, List, length, get_or, Option, None, Some}
use Rattle.fort_theory.specs.Patterns.{PatternSystem}
use Rattle.fort_theory.specs.Cores as core
use Rattle.fort_parts.specs.AlikeParts.{IsOverBy}
use Rattle.fort_parts.specs.PartAnswers.{Answer}
use Rattle.fort_parts.specs.RightAnswers.{IsRightBy}
use Rattle.fort_parts.specs.ReducedParts.{AlikeWith}
use Rattle.fort_parts.specs.ToldParts.{ToldWith}
use Rattle.fort_engine.specs.declared.answer.Last.{Last}
use Rattle.fort_engine.specs.declared.options.Options.{Options}
use Rattle.fort_engine.specs.AnswerView.{as_answer}

-- a right answer to the formula, as it is kept
abbrev pub IsRight : PatternSystem → Options → core.Core → Answer → Type 0
IsRight system options f answer = IsRightBy system (ToldWith options.reduces system) f answer

-- the formula is over the cap
abbrev pub IsOverCap : PatternSystem → Options → core.Core → Type 0
IsOverCap system options f = IsOverBy system (AlikeWith options.reduces system) f options.cap

-- more tuples than the cap are told apart at the formula by what is kept
abbrev pub IsKeptOverCap : PatternSystem → Options → core.Core → Type 0
IsKeptOverCap system options f = IsOverBy system (ToldWith options.reduces system) f options.cap

pub record HasRightAnswer (system : PatternSystem) (options : Options) (f : core.Core) (kept : Option Last) : Type 0 where
  pub answer : Last
  pub is : kept ≡ Some answer
  pub right : IsRight system options f (as_answer answer)

-- of the first k parts the answers that are needed from part k on
pub record AreKept (system : PatternSystem) (options : Options) (parts : List core.Core) (uses : List ℕ) (k : ℕ) (kept : List (Option Last)) : Type 0 where
  pub count : length kept ≡ k
  pub each : (j : ℕ) → j < k → k ≤ get_or uses j 0 → HasRightAnswer system options (get_or parts j core.True) (get_or kept j None)

-- nor is one of them over the cap, or told apart at more tuples than the cap by what is kept
pub record IsSoFar (system : PatternSystem) (options : Options) (parts : List core.Core) (uses : List ℕ) (k : ℕ) (kept : List (Option Last)) : Type 0 where
  pub kept_are : AreKept system options parts uses k kept
  pub before : (j : ℕ) → j < k → IsOverCap system options (get_or parts j core.True) → ⊥
  pub kept_within : (j : ℕ) → j < k → IsKeptOverCap system options (get_or parts j core.True) → ⊥

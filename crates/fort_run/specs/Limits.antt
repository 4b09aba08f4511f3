-- To believe: what the limit of a run shows: the first part over the cap of the core formula that the words ask about, over the input's system or over the system of a family to which a search has come, its kind, and one more tuple than the cap, no two of them alike, as the options say; the text that is written tells of this limit.
use Rattle.std.specs.Prelude.{◌≡◌, ℕ, List, ◌++◌, Option, Some}
use Rattle.fort_theory.specs.Trees.{Tree}
use Rattle.fort_theory.specs.Sides.{System}
use Rattle.fort_theory.specs.Patterns.{pattern_system}
use Rattle.fort_logic.specs.Formulas.{Formula}
use Rattle.fort_logic.specs.Translation.{core_of}
use Rattle.fort_formulas.specs.KindView.{as_kind}
use Rattle.fort_io.specs.Devices.{Takes}
use Rattle.fort_answers.specs.FamilyRules.{FamilyRule, IsTooLarge}
use Rattle.fort_answers.specs.FamilySystems.{system_of}
use Rattle.fort_answers.specs.RuleText.{rule_lines}
use Rattle.fort_answers.specs.Requests.{Text, Options, Family, Request, Synth}
use Rattle.fort_answers.specs.Lines.{limit_line}
use Rattle.fort_answers.specs.CommandGrammar.{request_of}
use Rattle.fort_answers.specs.FormulaAnswer.{IsAcceptedClosed}
use Rattle.fort_answers.specs.InputAnswer.{IsInput, IsSignatureInput}
use Rattle.fort_answers.specs.FitAnswer.{FitsSystem}
use Rattle.fort_answers.specs.SynthAnswer.{IsReached}
use Rattle.fort_answers.specs.Answer.{IsAbout}
use Rattle.fort_engine.specs.declared.answer.Limit.{Limit}
use Rattle.fort_engine.specs.AnswerView.{IsLimit}
use Rattle.fort_answers.specs.Told.{HoldsForTold}

-- the line tells of this limit
abbrev pub IsLineOf : (states : ℕ) → Limit → Text → Type 0
IsLineOf states limit line = line ≡ limit_line limit.part (as_kind limit.kind) states

-- the request is about a formula whose core formula over the system of these bytes has this limit, of which the line tells
pub record HasInputLimit (request : Option Request) (bytes line : Text) (limit : Limit) : Type 0 where
  pub options : Options
  pub formula : Text
  pub f : Formula
  pub about : IsAbout request options formula f
  pub system : System
  pub input : IsInput bytes system
  pub terms : List Tree
  pub fits : FitsSystem formula f system terms
  pub is : IsLimit (pattern_system system) options.reduces (core_of terms f) options.states limit
  pub line_is : IsLineOf options.states limit line

-- the request is for the first system of a family that makes a formula true; the search comes to these rules, over whose system the core
-- formula has this limit, of which the first line of the text tells, and whose other lines are the rules
pub record HasFamilyLimit (request : Option Request) (bytes text : Text) (limit : Limit) : Type 0 where
  pub options : Options
  pub family : Family
  pub formula : Text
  pub asked : request ≡ Some (Synth options family formula)
  pub f : Formula
  pub accepted : IsAcceptedClosed formula f
  pub system : System
  pub input : IsSignatureInput bytes system
  pub terms : List Tree
  pub fits : FitsSystem formula f system terms
  pub small : IsTooLarge system.signature family.height → ⊥
  pub rules : List FamilyRule
  pub reached : IsReached options family system.signature terms f rules
  pub is : IsLimit (pattern_system (system_of system.signature rules)) options.reduces (core_of terms f) options.states limit
  pub text_is : text ≡ limit_line limit.part (as_kind limit.kind) options.states ++ rule_lines system.signature rules

pub data HasLimit (request : Option Request) (bytes text : Text) (limit : Limit) : Type 0 where
  OverInput : HasInputLimit request bytes text limit → HasLimit request bytes text limit
  OverFamily : HasFamilyLimit request bytes text limit → HasLimit request bytes text limit

-- for the bytes that a source tells; for one that tells none, for some bytes
abbrev pub HasLimitTold : Option Request → (told : Option Text) → (text : Text) → Limit → Type 0
HasLimitTold request told text limit = HoldsForTold told (λ bytes. HasLimit request bytes text limit)

-- and from old to new the sink took the text
pub record IsLimitOf (words : List Text) (told old new : Option Text) (limit : Limit) : Type 0 where
  pub text : Text
  pub told_limit : HasLimitTold (request_of words) told text limit
  pub taken : Takes old new text

-- Inside: what deciding a core formula says over a system of a family, and what a search through the family says.
use Rattle.std.specs.Prelude.{◌≡◌, ℕ, Bool, true, false, List, ◌++◌, Some}
use Rattle.fort_theory.specs.Signatures.{Signature}
use Rattle.fort_theory.specs.Patterns.{PatternSystem, pattern_system}
use Rattle.fort_theory.specs.Cores.{Core}
use Rattle.fort_theory.specs.PatternStructures.{pattern_structure}
use Rattle.fort_parts.specs.DecidedCores.{IsDecided}
use Rattle.fort_parts.specs.PartAnswers.{OfValue, IsAnswerTo}
use Rattle.fort_formulas.specs.KindView.{as_kind}
use Rattle.fort_answers.specs.FamilyRules.{FamilyRule}
use Rattle.fort_answers.specs.FamilySystems.{CandidateBefore, system_of}
use Rattle.fort_answers.specs.RuleText.{rule_lines}
use Rattle.fort_synth.specs.SearchAnswers.{IsPicked, picked_system}
use Rattle.fort_answers.specs.Lines as lines
use Rattle.fort_words.specs.declared.request.Options.{Options}
use Rattle.fort_engine.specs.AnswerView.{IfOver, KeepsCapAt, IsLimit}
use Rattle.fort_engine.specs.declared.answer.EngineFault.{EngineFault}
use Rattle.fort_engine.specs.declared.answer.EngineFault.TheVariants.{Memory, Over}
use Rattle.fort_engine.specs.declared.answer.Limit.{Limit}
use Rattle.fort_run.specs.declared.reply.Reply.{Reply}
use Rattle.fort_run.specs.StatusView.{code_of}

-- over the system no part is over the cap, and the core formula has this value
pub record HasValue (options : Options) (core : Core) (system : PatternSystem) (value : Bool) : Type 0 where
  pub answer : IsAnswerTo (pattern_structure system) core (OfValue value)
  pub keeps : KeepsCapAt system options.reduces core options.states

-- the search comes to these rules of the family: over all systems before theirs no part is over the cap and the core formula is false
pub record ComesTo (options : Options) (core : Core) (signature : Signature) (family : List FamilyRule) (count : ℕ) (rules : List FamilyRule) : Type 0 where
  pub picked : IsPicked family count rules
  pub before : (others : List FamilyRule) → IsPicked family count others → CandidateBefore others rules
      → HasValue options core (picked_system signature others) false

-- the core formula can be decided over each system of the family
abbrev pub IsDecidedOverAll : Signature → List FamilyRule → (count : ℕ) → Core → Type 0
IsDecidedOverAll signature family count core =
    (rules : List FamilyRule) → IsPicked family count rules → IsDecided (picked_system signature rules) core

-- it is true over this system, to whose rules the search comes
pub record IsFirstTrue (options : Options) (core : Core) (signature : Signature) (family : List FamilyRule) (count : ℕ) (system : PatternSystem) : Type 0 where
  pub rules : List FamilyRule
  pub is : system ≡ picked_system signature rules
  pub comes : ComesTo options core signature family count rules
  pub has : HasValue options core (picked_system signature rules) true

-- it is false over all systems of the family
abbrev pub AreAllFalse : Options → Core → Signature → List FamilyRule → (count : ℕ) → Type 0
AreAllFalse options core signature family count =
    (rules : List FamilyRule) → IsPicked family count rules → HasValue options core (picked_system signature rules) false

-- over this system, to whose rules the search comes, it has the limit that the fault tells, if that isn't want of memory
pub record IsFirstOver (options : Options) (core : Core) (signature : Signature) (family : List FamilyRule) (count : ℕ) (system : PatternSystem)
    (fault : EngineFault) : Type 0 where
  pub rules : List FamilyRule
  pub is : system ≡ picked_system signature rules
  pub comes : ComesTo options core signature family count rules
  pub over : IfOver fault (IsLimit (picked_system signature rules) options.reduces core options.states)

-- the system is that of these rules of a family
abbrev pub IsSystemOf : PatternSystem → List FamilyRule → Type 0
IsSystemOf system rules = system ≡ pattern_system (system_of system.signature rules)

-- the reply has this limit over the system, with its line and the rules
pub record TellsStop (states : ℕ) (limit : Limit) (system : PatternSystem) (reply : Reply) : Type 0 where
  pub limit_is : reply.limit ≡ Some limit
  pub status_is : code_of reply.status ≡ lines.limited
  pub text_is : (rules : List FamilyRule) → IsSystemOf system rules
      → reply.text.items ≡ lines.limit_line limit.part (as_kind limit.kind) states ++ rule_lines system.signature rules

-- a fault of deciding over the system is told; none is for want of memory
abbrev pub TellsStopFault : (states : ℕ) → EngineFault → PatternSystem → Reply → Type 0
TellsStopFault states Memory system reply = ⊥
TellsStopFault states (Over limit) system reply = TellsStop states limit system reply

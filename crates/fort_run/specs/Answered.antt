-- To believe: what a run leaves where it answers, that no other answer is owed, how far it read, when a request has to be answered by a verdict or a limit, and what it leaves where a fault of the sink cuts the answer short.
use Rattle.std.specs.Prelude.{◌≡◌, ℕ, ◌<◌, ◌⊎◌, List, ◌++◌, length, Option, Some, IfSome}
use Rattle.std.specs.Io.KnownBytes.{IsAtEnd}
use Rattle.fort_theory.specs.Trees.{Tree}
use Rattle.fort_theory.specs.Sides.{System}
use Rattle.fort_logic.specs.Formulas.{Formula}
use Rattle.fort_io.specs.Devices.{Takes}
use Rattle.fort_answers.specs.FamilyRules.{FamilyRule, IsTooLarge}
use Rattle.fort_answers.specs.FamilySystems.{system_of}
use Rattle.fort_answers.specs.Requests.{Text, Options, Family, Synth}
use Rattle.fort_answers.specs.CommandGrammar.{request_of}
use Rattle.fort_answers.specs.SystemAnswer.{KeepsCap}
use Rattle.fort_answers.specs.SynthAnswer.{IsOfFamily}
use Rattle.fort_answers.specs.FormulaAnswer.{IsAcceptedClosed}
use Rattle.fort_answers.specs.InputAnswer.{IsInput, IsSignatureInput, input_limit}
use Rattle.fort_answers.specs.FitAnswer.{FitsSystem}
use Rattle.fort_answers.specs.Answer.{Answer, AnswerFor, EarlyAnswer, IsAbout}

-- the status is the answer's, and the sink took the answer's text, all of it
pub record Answers (words : List Text) (told : Option Text) (old new : Option Text) (status : ℕ) : Type 0 where
  pub text : Text
  pub owed : AnswerFor words told status text
  pub taken : Takes old new text

-- whatever answer is owed to the bytes has this status, and the sink took its text
abbrev pub OwesOnly : List Text → (old new : Option Text) → ℕ → Text → Type 0
OwesOnly words old new status bytes = (s : ℕ) (t : Text) → Answer words bytes s t → (s ≡ status) × Takes old new t

-- the same of an answer that is owed before anything is read
abbrev pub OwesOnlyEarly : List Text → (old new : Option Text) → ℕ → Type 0
OwesOnlyEarly words old new status = (s : ℕ) (t : Text) → EarlyAnswer words s t → (s ≡ status) × Takes old new t

-- the sink took a front of the answer's text
pub record CutsShort (words : List Text) (told : Option Text) (old new : Option Text) : Type 0 where
  pub status : ℕ
  pub front : Text
  pub back : Text
  pub owed : AnswerFor words told status (front ++ back)
  pub taken : Takes old new front

-- the source was read to its end, or had more than the limit
abbrev pub ReadsWhole : Option Text → Option Text → Type 0
ReadsWhole old new = IsAtEnd new ⊎ IfSome old (λ bytes. input_limit < length bytes)

-- the words ask to decide a formula or to find terms for it, and the bytes are a system with all that the formula speaks of
pub record IsDecidable (words : List Text) (told : Option Text) : Type 0 where
  pub options : Options
  pub formula : Text
  pub f : Formula
  pub about : IsAbout (request_of words) options formula f
  pub bytes : Text
  pub told_are : told ≡ Some bytes
  pub system : System
  pub input : IsInput bytes system
  pub terms : List Tree
  pub fits : FitsSystem formula f system terms

-- and each part of the formula keeps the cap
pub record IsDecidableWithin (words : List Text) (told : Option Text) : Type 0 where
  pub decidable : IsDecidable words told
  pub keeps : KeepsCap decidable.system decidable.terms decidable.f decidable.options

-- the words ask for the first system of a family that is not too large, and the bytes are a signature that has all that the formula speaks of
pub record IsSearchable (words : List Text) (told : Option Text) : Type 0 where
  pub options : Options
  pub family : Family
  pub formula : Text
  pub asked : request_of words ≡ Some (Synth options family formula)
  pub f : Formula
  pub accepted : IsAcceptedClosed formula f
  pub bytes : Text
  pub told_are : told ≡ Some bytes
  pub system : System
  pub input : IsSignatureInput bytes system
  pub terms : List Tree
  pub fits : FitsSystem formula f system terms
  pub small : IsTooLarge system.signature family.height → ⊥

-- and each part of the formula keeps the cap over each system of the family
pub record IsSearchableWithin (words : List Text) (told : Option Text) : Type 0 where
  pub searchable : IsSearchable words told
  pub keeps : (rules : List FamilyRule) → IsOfFamily searchable.system.signature searchable.family rules
      → KeepsCap (system_of searchable.system.signature rules) searchable.terms searchable.f searchable.options

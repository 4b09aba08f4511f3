-- To believe: what `synth` asks of a closed formula over a signature, and what it says: the first system of a family that makes the formula true, or on which a part of it is over the cap, or that it is false of them all; or that the family is too large.
use Rattle.std.specs.Prelude.{ℕ, List, ◌++◌, None, codes}
use Rattle.fort_theory.specs.Trees.{Tree}
use Rattle.fort_theory.specs.Signatures.{Signature}
use Rattle.fort_theory.specs.Kinds.{Kind}
use Rattle.fort_logic.specs.Formulas.{Formula}
use Rattle.fort_logic.specs.Truth.{IsTrueOf, IsFalseOf}
use Rattle.fort_answers.specs.FamilyRules.{FamilyRule, IsTooLarge}
use Rattle.fort_answers.specs.FamilySystems.{IsCandidate, CandidateBefore, system_of}
use Rattle.fort_answers.specs.RuleText.{rule_lines}
use Rattle.fort_answers.specs.Requests.{Text, Options, Family}
use Rattle.fort_answers.specs.Lines.{positive, negative, refused, limited, line, limit_line}
use Rattle.fort_answers.specs.FormulaAnswer.{Closed}
use Rattle.fort_answers.specs.InputAnswer.{NoRules}
use Rattle.fort_answers.specs.SystemAnswer.{Are, PassesCap, KeepsCap, Inquiry}

-- ---- lines

abbrev pub family_too_large : Text
family_too_large = line (codes "REFUSED family too large")

-- the first line of the answer that a system makes the formula true; its rules follow
abbrev pub system_line : Text
system_line = line (codes "SYSTEM")

abbrev pub no_system_line : Text
no_system_line = line (codes "NO SYSTEM")

-- ---- the search

-- the rules of a system of the family
abbrev pub IsOfFamily : Signature → Family → List FamilyRule → Type 0
IsOfFamily signature family rules = IsCandidate signature family.height family.count rules

-- the search doesn't end at the system of these rules: no part of the formula is over the cap over it, and the formula is false of it
pub record GoesOnBehind (options : Options) (signature : Signature) (terms : List Tree) (f : Formula) (rules : List FamilyRule) : Type 0 where
  pub keeps : KeepsCap (system_of signature rules) terms f options
  pub fails : IsFalseOf (system_of signature rules) terms f

-- the search comes to these rules: they make a system of the family, and it ends at none that comes before it
pub record IsReached (options : Options) (family : Family) (signature : Signature) (terms : List Tree) (f : Formula) (rules : List FamilyRule) : Type 0 where
  pub of_family : IsOfFamily signature family rules
  pub before : (others : List FamilyRule) → IsOfFamily signature family others → CandidateBefore others rules → GoesOnBehind options signature terms f others

-- the cases in their order, each with what the first one leaves
pub data SynthVerdict (options : Options) (family : Family) (signature : Signature) (terms : List Tree) (f : Formula) (status : ℕ) (text : Text) : Type 0 where
  TooLarge : IsTooLarge signature family.height → Are status text refused family_too_large → SynthVerdict options family signature terms f status text
  Found : (IsTooLarge signature family.height → ⊥) → (rules : List FamilyRule) → IsReached options family signature terms f rules
      → KeepsCap (system_of signature rules) terms f options → IsTrueOf (system_of signature rules) terms f
      → Are status text positive (system_line ++ rule_lines signature rules) → SynthVerdict options family signature terms f status text
  Over : (IsTooLarge signature family.height → ⊥) → (rules : List FamilyRule) → IsReached options family signature terms f rules
      → (k : ℕ) (kind : Kind) → PassesCap (system_of signature rules) terms f options k kind
      → Are status text limited (limit_line k kind options.states ++ rule_lines signature rules) → SynthVerdict options family signature terms f status text
  NotFound : (IsTooLarge signature family.height → ⊥)
      → ((rules : List FamilyRule) → IsOfFamily signature family rules → GoesOnBehind options signature terms f rules)
      → Are status text negative no_system_line → SynthVerdict options family signature terms f status text

-- what `synth` asks of a formula; each system of the family has to keep the cap, and not the input's
abbrev pub synth_inquiry : Options → Family → (formula : Text) → Inquiry
synth_inquiry options family formula =
    record {
      formula = formula;
      openness = Closed;
      tail = NoRules;
      options = None;
      says = λ system behind terms f status text. SynthVerdict options family system.signature terms f status text;
    }

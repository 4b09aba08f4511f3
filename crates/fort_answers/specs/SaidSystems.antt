-- To believe: what is said of a closed formula over the bytes of a signature: the first system of a family that makes it true, or that none does.
use Rattle.std.specs.Prelude.{◌≡◌, ℕ, List, ◌∷◌, [], ◌++◌, codes, decimal}
use Rattle.fort_theory.specs.Trees.{Tree}
use Rattle.fort_theory.specs.Sides.{System}
use Rattle.fort_logic.specs.Formulas.{Formula}
use Rattle.fort_logic.specs.Truth.{IsTrueOf, IsFalseOf}
use Rattle.fort_answers.specs.FamilyRules.{FamilyRule}
use Rattle.fort_answers.specs.FamilySystems.{IsCandidate, CandidateBefore, system_of}
use Rattle.fort_answers.specs.RuleText.{rule_lines}

-- the text has the rules of the first system of the family, over the signature with which the bytes begin, of which the formula is true: it
-- is false of all that come before; the digits write how many rules a system has, and how high their sides are at most
pub record SaysSystem (rules_digits height_digits text : List ℕ) (system : System) (terms : List Tree) (f : Formula) : Type 0 where
  pub count : ℕ
  pub is_count : rules_digits ≡ decimal count
  pub height : ℕ
  pub is_height : height_digits ≡ decimal height
  pub rules : List FamilyRule
  pub of_family : IsCandidate system.signature height count rules
  pub holds : IsTrueOf (system_of system.signature rules) terms f
  pub first : (others : List FamilyRule) → IsCandidate system.signature height count others → CandidateBefore others rules
      → IsFalseOf (system_of system.signature others) terms f
  pub is : text ≡ (codes "SYSTEM" ++ 10 ∷ []) ++ rule_lines system.signature rules

-- the formula is false of all systems of the family
pub record SaysNoSystem (rules_digits height_digits text : List ℕ) (system : System) (terms : List Tree) (f : Formula) : Type 0 where
  pub count : ℕ
  pub is_count : rules_digits ≡ decimal count
  pub height : ℕ
  pub is_height : height_digits ≡ decimal height
  pub fails : (rules : List FamilyRule) → IsCandidate system.signature height count rules → IsFalseOf (system_of system.signature rules) terms f
  pub is : text ≡ codes "NO SYSTEM" ++ 10 ∷ []

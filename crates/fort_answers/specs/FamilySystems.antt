-- To believe: a system of a family has as many of its rules as are wanted, ascending; the systems come in lexicographic order; a pattern's places for variables have different variables, numbered from left to right.
use Rattle.std.specs.Prelude.{◌≡◌, ℕ, ◌+◌, ◌⊎◌, All, List, [], ◌∷◌, length, map}
use Rattle.fort_theory.specs.Trees.{Tree, Trees, Node, Nil, More}
use Rattle.fort_theory.specs.Signatures.{Signature}
use Rattle.fort_theory.specs.Sides.{Side, Sides, Var, App, NoSide, MoreSides, Rule, System}
use Rattle.fort_theory.specs.Patterns.{Pattern, Patterns, Any, At, NoPattern, MorePatterns}
use Rattle.fort_answers.specs.FamilyRules.{FamilyRule, RuleBefore, IsFamilyRule, Ascend}

-- how many places for variables there are
abbrev mutual
  pub any_count : Pattern → ℕ
  any_count Any = 1
  any_count (At f ps) = any_counts ps

  pub any_counts : Patterns → ℕ
  any_counts NoPattern = 0
  any_counts (MorePatterns p ps) = any_count p + any_counts ps

-- the side with a variable in each place, the first with this number, each further one with the next
abbrev mutual
  pub side_from : ℕ → Pattern → Side
  side_from v Any = Var v
  side_from v (At f ps) = App f (sides_from v ps)

  pub sides_from : ℕ → Patterns → Sides
  sides_from v NoPattern = NoSide
  sides_from v (MorePatterns p ps) = MoreSides (side_from v p) (sides_from (v + any_count p) ps)

-- the ground term as a side
abbrev mutual
  pub ground_side : Tree → Side
  ground_side (Node f ts) = App f (ground_sides ts)

  pub ground_sides : Trees → Sides
  ground_sides Nil = NoSide
  ground_sides (More t ts) = MoreSides (ground_side t) (ground_sides ts)

unfoldable pub rule_of : FamilyRule → Rule
rule_of rule = record { left = side_from 0 rule.0; right = ground_side rule.1 }

-- the system of these rules, which has one index
unfoldable pub system_of : Signature → List FamilyRule → System
system_of signature rules = record { signature = signature; rules = map rule_of rules ∷ [] }

-- rules that make a system of the family: as many as are wanted, ascending
pub record IsCandidate (signature : Signature) (height count : ℕ) (rules : List FamilyRule) : Type 0 where
  pub are : All (IsFamilyRule signature height) rules
  pub ascend : Ascend rules
  pub number : length rules ≡ count

-- lexicographic order
abbrev pub CandidateBefore : List FamilyRule → List FamilyRule → Type 0
CandidateBefore rs [] = ⊥
CandidateBefore [] (s ∷ ss) = Unit {0}
CandidateBefore (r ∷ rs) (s ∷ ss) = RuleBefore r s ⊎ ((r ≡ s) × CandidateBefore rs ss)

-- To believe: the rules of a family are the pairs of a pattern and a ground term over a signature, neither higher than some height; they are ordered by their patterns, and then by their terms, which are ordered by their symbols and then by their children from left to right; a family of more than 4,096 rules is too large.
use Rattle.std.specs.Prelude.{◌≡◌, ◌↔◌, ℕ, suc, max, ◌<◌, ◌≤◌, ◌⊎◌, List, length, get_or, Contains}
use Rattle.fort_theory.specs.Trees.{Tree, Trees, Node, Nil, More}
use Rattle.fort_theory.specs.Trees as trees
use Rattle.fort_theory.specs.Signatures.{Signature, IsGround}
use Rattle.fort_theory.specs.Patterns.{Pattern, Patterns, Any, At, NoPattern, MorePatterns, FitsPattern}
use Rattle.fort_theory.specs.PatternOrder.{PatternBefore}

-- 0 for Any and for a symbol without arguments, else one more than the greatest height of an argument
abbrev mutual
  pub pattern_height : Pattern → ℕ
  pattern_height Any = 0
  pattern_height (At f ps) = pattern_heights ps

  pub pattern_heights : Patterns → ℕ
  pattern_heights NoPattern = 0
  pattern_heights (MorePatterns p ps) = max (suc (pattern_height p)) (pattern_heights ps)

abbrev mutual
  pub TreeBefore : Tree → Tree → Type 0
  TreeBefore (Node f ts) (Node g us) = (f < g) ⊎ ((f ≡ g) × TreesBefore ts us)

  pub TreesBefore : Trees → Trees → Type 0
  TreesBefore ts Nil = ⊥
  TreesBefore Nil (More u us) = Unit {0}
  TreesBefore (More t ts) (More u us) = TreeBefore t u ⊎ ((t ≡ u) × TreesBefore ts us)

-- a pattern on the left, with a different variable in each of its places, and a ground term on the right
abbrev pub FamilyRule : Type 0
FamilyRule = Pattern × Tree

abbrev pub RuleBefore : FamilyRule → FamilyRule → Type 0
RuleBefore r s = PatternBefore r.0 s.0 ⊎ ((r.0 ≡ s.0) × TreeBefore r.1 s.1)

pub record IsFamilyRule (signature : Signature) (height : ℕ) (rule : FamilyRule) : Type 0 where
  pub left : FitsPattern signature rule.0
  pub left_low : pattern_height rule.0 ≤ height
  pub right : IsGround signature rule.1
  pub right_low : trees.height rule.1 ≤ height

-- each rule comes before those behind it
abbrev pub Ascend : List FamilyRule → Type 0
Ascend rules = (i j : ℕ) (d : FamilyRule) → i < j → j < length rules → RuleBefore (get_or rules i d) (get_or rules j d)

-- these are the rules of the family, each once and in their order
pub record IsFamily (signature : Signature) (height : ℕ) (rules : List FamilyRule) : Type 0 where
  pub same : (r : FamilyRule) → Contains rules r ↔ IsFamilyRule signature height r
  pub ascend : Ascend rules

-- the most rules of a family that is searched
abbrev pub most_family_rules : ℕ
most_family_rules = 4096

-- the family has more
pub record IsTooLarge (signature : Signature) (height : ℕ) : Type 0 where
  pub rules : List FamilyRule
  pub are : IsFamily signature height rules
  pub many : most_family_rules < length rules

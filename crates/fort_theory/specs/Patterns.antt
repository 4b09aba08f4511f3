-- To believe: a pattern is a side without the names of its variables, and its instances are the trees that it becomes with any trees in their places.
use Rattle.std.specs.Prelude.{◌≡◌, ℕ, suc, ◌≤◌, List, length, map, All, Some}
use Rattle.fort_theory.specs.Trees.{Tree, Trees, Node, Nil, More}
use Rattle.fort_theory.specs.Signatures.{most_indices, Signature, arity_of, HasConstant}
use Rattle.fort_theory.specs.Sides.{Side, Sides, Var, App, NoSide, MoreSides, Rule, System}

mutual
  pub data Pattern : Type 0 where
    Any : Pattern
    At : (sym : ℕ) → (args : Patterns) → Pattern

  pub data Patterns : Type 0 where
    NoPattern : Patterns
    MorePatterns : (first : Pattern) → (rest : Patterns) → Patterns

abbrev mutual
  pub IsInstance : Pattern → Tree → Type 0
  IsInstance Any t = Unit {0}
  IsInstance (At f ps) (Node g ts) = (f ≡ g) × AreInstances ps ts

  pub AreInstances : Patterns → Trees → Type 0
  AreInstances NoPattern Nil = Unit {0}
  AreInstances NoPattern (More t ts) = ⊥
  AreInstances (MorePatterns p ps) Nil = ⊥
  AreInstances (MorePatterns p ps) (More t ts) = IsInstance p t × AreInstances ps ts

-- the side with Any for each variable
abbrev mutual
  pub pattern_of : Side → Pattern
  pattern_of (Var v) = Any
  pattern_of (App f ss) = At f (patterns_of ss)

  pub patterns_of : Sides → Patterns
  patterns_of NoSide = NoPattern
  patterns_of (MoreSides s ss) = MorePatterns (pattern_of s) (patterns_of ss)

abbrev pub pattern_count : Patterns → ℕ
pattern_count NoPattern = 0
pattern_count (MorePatterns p ps) = suc (pattern_count ps)

-- every symbol has as many arguments as its arity
abbrev mutual
  pub FitsPattern : Signature → Pattern → Type 0
  FitsPattern signature Any = Unit {0}
  FitsPattern signature (At f ps) = (arity_of signature f ≡ Some (pattern_count ps)) × FitPatterns signature ps

  pub FitPatterns : Signature → Patterns → Type 0
  FitPatterns signature NoPattern = Unit {0}
  FitPatterns signature (MorePatterns p ps) = FitsPattern signature p × FitPatterns signature ps

abbrev pub Pair : Type 0
Pair = Pattern × Pattern

-- the two patterns of a rule
abbrev pub pattern_pair : Rule → Pair
pattern_pair rule = (pattern_of rule.left, pattern_of rule.right)

abbrev pub FitsPair : Signature → Pair → Type 0
FitsPair signature pair = FitsPattern signature pair.0 × FitsPattern signature pair.1

-- a system as its signature and, for each index, the pairs of its rules' patterns
pub record PatternSystem : Type 0 where
  pub signature : Signature
  pub rules : List (List Pair)

abbrev pub pattern_system : System → PatternSystem
pattern_system system = record { signature = system.signature; rules = map (map pattern_pair) system.rules }

-- what every system of the program keeps: a constant, 1 to 9 indices, rules that fit the signature
pub record IsSystem (system : PatternSystem) : Type 0 where
  pub constant : HasConstant system.signature
  pub some : 1 ≤ length system.rules
  pub few : length system.rules ≤ most_indices
  pub fits : All (All (FitsPair system.signature)) system.rules

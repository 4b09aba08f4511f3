-- To believe: a side of a rule is a tree with variables, a rule is a pair of them, a substitution puts a tree for each variable, and a system has a list of rules for each of its indices, counted from 1.
use Rattle.std.specs.Prelude.{◌≡◌, ℕ, zero, suc, ◌+◌, ◌≤◌, List, [], ◌∷◌, ◌++◌, length, Contains, Some, nat_eq}
use Rattle.std.specs.List.{IsDistinct}
use Rattle.fort_theory.specs.Trees.{Tree, Trees, Node, Nil, More}
use Rattle.fort_theory.specs.Signatures.{Signature, arity_of}

-- variables are numbered by each rule for itself
mutual
  pub data Side : Type 0 where
    Var : (variable : ℕ) → Side
    App : (sym : ℕ) → (args : Sides) → Side

  pub data Sides : Type 0 where
    NoSide : Sides
    MoreSides : (first : Side) → (rest : Sides) → Sides

abbrev pub side_count : Sides → ℕ
side_count NoSide = 0
side_count (MoreSides s ss) = suc (side_count ss)

-- every symbol has as many arguments as its arity
abbrev mutual
  pub FitsSide : Signature → Side → Type 0
  FitsSide signature (Var v) = Unit {0}
  FitsSide signature (App f ss) = (arity_of signature f ≡ Some (side_count ss)) × FitsSides signature ss

  pub FitsSides : Signature → Sides → Type 0
  FitsSides signature NoSide = Unit {0}
  FitsSides signature (MoreSides s ss) = FitsSide signature s × FitsSides signature ss

-- the variables from left to right, each as often as it stands there
abbrev mutual
  pub variables : Side → List ℕ
  variables (Var v) = v ∷ []
  variables (App f ss) = variables_among ss

  pub variables_among : Sides → List ℕ
  variables_among NoSide = []
  variables_among (MoreSides s ss) = variables s ++ variables_among ss

abbrev pub Substitution : Type 0
Substitution = ℕ → Tree

abbrev mutual
  pub applied : Substitution → Side → Tree
  applied m (Var v) = m v
  applied m (App f ss) = Node f (all_applied m ss)

  pub all_applied : Substitution → Sides → Trees
  all_applied m NoSide = Nil
  all_applied m (MoreSides s ss) = More (applied m s) (all_applied m ss)

pub record Rule : Type 0 where
  pub left : Side
  pub right : Side

-- no variable stands twice in the side
abbrev pub IsLinear : Side → Type 0
IsLinear s = IsDistinct nat_eq (variables s)

-- no variable stands in both
abbrev pub ShareNothing : Side → Side → Type 0
ShareNothing s t = (v : ℕ) → Contains (variables s) v → Contains (variables t) v → ⊥

-- linear and variable-separated
pub record IsLinearSeparated (rule : Rule) : Type 0 where
  pub left : IsLinear rule.left
  pub right : IsLinear rule.right
  pub separated : ShareNothing rule.left rule.right

-- the lists of a system have the indices 1, 2 and so on, in their order; at any other index there is nothing

-- the list of this index
abbrev pub at_index : {A : Type 0} → ℕ → List (List A) → List A
at_index zero lists = []
at_index (suc i) [] = []
at_index (suc zero) (xs ∷ lists) = xs
at_index (suc (suc i)) (xs ∷ lists) = at_index (suc i) lists

-- the lists with x behind the list of this index
abbrev pub pushed_at : {A : Type 0} → ℕ → A → List (List A) → List (List A)
pushed_at zero x lists = lists
pushed_at (suc i) x [] = []
pushed_at (suc zero) x (xs ∷ lists) = (xs ++ x ∷ []) ∷ lists
pushed_at (suc (suc i)) x (xs ∷ lists) = xs ∷ pushed_at (suc i) x lists

-- this many lists, with nothing in them
abbrev pub empty_lists : {A : Type 0} → ℕ → List (List A)
empty_lists zero = []
empty_lists (suc n) = [] ∷ empty_lists n

-- how many stand in all lists together
abbrev pub count_all : {A : Type 0} → List (List A) → ℕ
count_all [] = 0
count_all (xs ∷ lists) = length xs + count_all lists

-- there is a list of this index
pub record IsIndexOf {A : Type 0} (lists : List (List A)) (index : ℕ) : Type 0 where
  pub low : 1 ≤ index
  pub high : index ≤ length lists

-- a system over a signature: for each index a list of rules; its number is that of its indices
pub record System : Type 0 where
  pub signature : Signature
  pub rules : List (List Rule)

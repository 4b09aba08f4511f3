-- To believe: which relation between terms an expression of root steps, converses, unions, compositions and closures means; the indices of its root steps, and how many they may be.
use Rattle.std.specs.Prelude.{ℕ, ◌<◌, List, [], ◌∷◌, ◌++◌, length, ◌⊎◌}
use Rattle.fort_theory.specs.Trees.{Tree}
use Rattle.fort_theory.specs.Rewriting.{Relation, ReducesThroughRoot, RewritesInParallel}

-- root steps are those of an index
pub data Expression : Type 0 where
  RootSteps : (index : ℕ) → Expression
  Inverse : (inner : Expression) → Expression
  Union : (first : Expression) → (second : Expression) → Expression
  Composition : (first : Expression) → (second : Expression) → Expression
  Closure : (inner : Expression) → Expression

abbrev pub Converse : Relation → Relation
Converse r s t = r t s

abbrev pub EitherOf : Relation → Relation → Relation
EitherOf r q s t = r s t ⊎ q s t

-- the first, and then the second; one of the two at the root, the other in any number of holes of a context
abbrev pub Composes : Relation → Relation → Relation
Composes r q s t = ((u : Tree) × r s u × RewritesInParallel q u t) ⊎ ((u : Tree) × RewritesInParallel r s u × q u t)

-- a closure is a pair of the relation, with any number of steps of it, at any positions, before it and behind it
abbrev pub Means : (ℕ → Relation) → Expression → Relation
Means roots (RootSteps index) = roots index
Means roots (Inverse e) = Converse (Means roots e)
Means roots (Union a b) = EitherOf (Means roots a) (Means roots b)
Means roots (Composition a b) = Composes (Means roots a) (Means roots b)
Means roots (Closure e) = ReducesThroughRoot (Means roots e)

-- the indices of its root steps, from left to right
abbrev pub root_indices : Expression → List ℕ
root_indices (RootSteps index) = index ∷ []
root_indices (Inverse e) = root_indices e
root_indices (Union a b) = root_indices a ++ root_indices b
root_indices (Composition a b) = root_indices a ++ root_indices b
root_indices (Closure e) = root_indices e

-- an expression has at most so many root steps, else its formula is too wide
abbrev pub most_roots : ℕ
most_roots = 32

abbrev pub HasManyRoots : Expression → Type 0
HasManyRoots e = most_roots < length (root_indices e)

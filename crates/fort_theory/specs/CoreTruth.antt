-- To believe: when a core formula is true, its variables ranging over all ground terms of a signature, for any relations between trees as the root steps.
use Rattle.std.specs.Prelude.{◌≡◌, ◌==◌, ℕ, if◌then◌else◌}
use Rattle.fort_theory.specs.Logic.{Surely, HasSome, HasInfinitelyMany, Connected}
use Rattle.fort_theory.specs.Trees.{Tree}
use Rattle.fort_theory.specs.Signatures.{IsGround}
use Rattle.fort_theory.specs.Rewriting.{Relation, Rewrites, RewritesBelow, Reduces, ReducesStrictly, Converts, RewritesInParallel, IsNormalForm}
use Rattle.fort_theory.specs.Expressions.{Means}
use Rattle.fort_theory.specs.Contexts.{HoldsInContext}
use Rattle.fort_theory.specs.Structures.{Structure}
use Rattle.fort_theory.specs.Cores.{Rel, Eq, Root, Below, Step, Par, Plus, Star, Conv, Atom, Related, InContext, Normal, IsTerm, Core, True, Leaf, Not, Binary, Exists, Infinite}

-- a tree for each number
abbrev pub Places : Type 0
Places = ℕ → Tree

-- the same with another tree for one number
abbrev pub with_number : Places → ℕ → Tree → Places
with_number m n t = λ k. if k == n then t else m k

abbrev pub RelatesBy : Relation → Rel → Relation
RelatesBy root Eq s t = s ≡ t
RelatesBy root Root s t = root s t
RelatesBy root Below s t = RewritesBelow root s t
RelatesBy root Step s t = Rewrites root s t
RelatesBy root Par s t = RewritesInParallel root s t
RelatesBy root Plus s t = ReducesStrictly root s t
RelatesBy root Star s t = Reduces root s t
RelatesBy root Conv s t = Converts root s t

-- an atom is true where its numbers have these trees
abbrev pub AtomHolds : Structure → Atom → Places → Type 0
AtomHolds structure (Related rel index x y) m = Surely (RelatesBy (structure.root index) rel (m x) (m y))
AtomHolds structure (InContext e number place x y) m = Surely (HoldsInContext (Means structure.root e) number place (m x) (m y))
AtomHolds structure (Normal index x) m = IsNormalForm (structure.root index) (m x)
AtomHolds structure (IsTerm x t) m = Surely (m x ≡ t)

-- a core formula is true where its numbers have these trees
abbrev pub IsMetBy : Structure → Core → Places → Type 0
IsMetBy structure True m = Unit {0}
IsMetBy structure (Leaf a) m = AtomHolds structure a m
IsMetBy structure (Not f) m = IsMetBy structure f m → ⊥
IsMetBy structure (Binary op f g) m = Connected op (IsMetBy structure f m) (IsMetBy structure g m)
IsMetBy structure (Exists n f) m = HasSome (λ t. IsGround structure.signature t × IsMetBy structure f (with_number m n t))
IsMetBy structure (Infinite n f) m = HasInfinitelyMany (λ t. IsGround structure.signature t × IsMetBy structure f (with_number m n t))

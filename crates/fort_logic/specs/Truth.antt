-- To believe: when a formula is true, its variables ranging over all ground terms of a signature, for any relations between trees as the root steps.
use Rattle.std.specs.Prelude.{◌≡◌, ℕ, if◌then◌else◌, bytes_eq, List, Some, None, slice_get}
use Rattle.fort_theory.specs.Logic.{Surely, OneOf, HasSome, HasInfinitelyMany}
use Rattle.fort_theory.specs.Trees.{Tree}
use Rattle.fort_theory.specs.Signatures.{IsGround}
use Rattle.fort_theory.specs.Sides.{System}
use Rattle.fort_theory.specs.Rewriting.{Relation, Rewrites, RewritesBelow, RewritesAtMostOnce, Reduces, ReducesStrictly, RewritesEitherWay, Converts, RewritesInParallel, IsNormalForm}
use Rattle.fort_theory.specs.Expressions.{Means}
use Rattle.fort_theory.specs.Contexts.{HoldsInContext}
use Rattle.fort_theory.specs.Structures.{Structure, structure_of}
use Rattle.fort_theory.specs.Termination.{IsTerminating, AllTerminate}
use Rattle.fort_logic.specs.Formulas.{Name, Argument, Var, Ground, SurfaceRel, Eq, Step, Star, Plus, Reflexive, Normal, Root, Below, Par, Either, Conv, Property, Cr, Wcr, Scr, Wn, Unr, Unc, Nfp, Formula, True, False, Related, InContext, Nf, Join, Sn, Has, Com, Not, And, Or, Imp, Iff, Exists, Forall, Infinite}

-- a tree for each variable, and for each ground term that is written in a formula
abbrev pub Assignment : Type 0
Assignment = Argument → Tree

-- the assignment with another tree for one variable
abbrev pub with_name : Assignment → Name → Tree → Argument → Tree
with_name m x t (Var y) = if bytes_eq y x then t else m (Var y)
with_name m x t (Ground k) = m (Ground k)

abbrev pub Relates : Relation → SurfaceRel → Relation
Relates root Eq s t = s ≡ t
Relates root Step s t = Rewrites root s t
Relates root Star s t = Reduces root s t
Relates root Plus s t = ReducesStrictly root s t
Relates root Reflexive s t = RewritesAtMostOnce root s t
Relates root Normal s t = Reduces root s t × IsNormalForm root t
Relates root Root s t = root s t
Relates root Below s t = RewritesBelow root s t
Relates root Par s t = RewritesInParallel root s t
Relates root Either s t = RewritesEitherWay root s t
Relates root Conv s t = Converts root s t

-- some ground term is reached from both
abbrev pub AreJoinable : Structure → ℕ → Tree → Tree → Type 0
AreJoinable structure index s t =
    HasSome (λ u. IsGround structure.signature u × Reduces (structure.root index) s u × Reduces (structure.root index) t u)

-- for all ground terms
abbrev pub ForTwo : Structure → (Tree → Tree → Type 0) → Type 0
ForTwo structure P = (s t : Tree) → IsGround structure.signature s → IsGround structure.signature t → P s t

abbrev pub ForThree : Structure → (Tree → Tree → Tree → Type 0) → Type 0
ForThree structure P = (s t u : Tree) → IsGround structure.signature s → IsGround structure.signature t → IsGround structure.signature u → P s t u

-- what the named properties say of all ground terms
abbrev pub HasProperty : Structure → ℕ → Property → Type 0
HasProperty structure index Cr = ForThree structure (λ s t u.
    Reduces (structure.root index) s t → Reduces (structure.root index) s u → AreJoinable structure index t u)
HasProperty structure index Wcr = ForThree structure (λ s t u.
    Rewrites (structure.root index) s t → Rewrites (structure.root index) s u → AreJoinable structure index t u)
HasProperty structure index Scr = ForThree structure (λ s t u.
    Rewrites (structure.root index) s t → Rewrites (structure.root index) s u
    → HasSome (λ v. IsGround structure.signature v × RewritesAtMostOnce (structure.root index) t v × Reduces (structure.root index) u v))
HasProperty structure index Wn = (s : Tree) → IsGround structure.signature s
    → HasSome (λ t. IsGround structure.signature t × Reduces (structure.root index) s t × IsNormalForm (structure.root index) t)
HasProperty structure index Unr = ForThree structure (λ s t u.
    Reduces (structure.root index) s t → Reduces (structure.root index) s u
    → IsNormalForm (structure.root index) t → IsNormalForm (structure.root index) u → Surely (t ≡ u))
HasProperty structure index Unc = ForTwo structure (λ s t.
    Converts (structure.root index) s t → IsNormalForm (structure.root index) s → IsNormalForm (structure.root index) t → Surely (s ≡ t))
HasProperty structure index Nfp = ForTwo structure (λ s t.
    Converts (structure.root index) s t → IsNormalForm (structure.root index) t → Surely (Reduces (structure.root index) s t))

-- a term that reduces by the rules of index 1 to one term and by those of index 2 to another: these two have a common reduct,
-- the first by the rules of index 2, the second by those of index 1
abbrev pub Commute : Structure → Type 0
Commute structure = ForThree structure (λ s t u.
    Reduces (structure.root 1) s t → Reduces (structure.root 2) s u
    → HasSome (λ v. IsGround structure.signature v × Reduces (structure.root 2) t v × Reduces (structure.root 1) u v))

-- a formula is true under an assignment
abbrev pub Holds : Structure → Formula → Assignment → Type 0
Holds structure True m = Unit {0}
Holds structure False m = ⊥
Holds structure (Related rel a b index) m = Surely (Relates (structure.root index) rel (m a) (m b))
Holds structure (InContext e number place a b) m = Surely (HoldsInContext (Means structure.root e) number place (m a) (m b))
Holds structure (Nf a index) m = IsNormalForm (structure.root index) (m a)
Holds structure (Join a b index) m = AreJoinable structure index (m a) (m b)
Holds structure (Sn (Some a) index) m = IsTerminating (structure.root index) (m a)
Holds structure (Sn None index) m = AllTerminate structure.signature (structure.root index)
Holds structure (Has property index) m = HasProperty structure index property
Holds structure Com m = Commute structure
Holds structure (Not f) m = Holds structure f m → ⊥
Holds structure (And f g) m = Holds structure f m × Holds structure g m
Holds structure (Or f g) m = OneOf (Holds structure f m) (Holds structure g m)
Holds structure (Imp f g) m = Holds structure f m → Holds structure g m
Holds structure (Iff f g) m = (Holds structure f m → Holds structure g m) × (Holds structure g m → Holds structure f m)
Holds structure (Exists x f) m = HasSome (λ t. IsGround structure.signature t × Holds structure f (with_name m x t))
Holds structure (Forall x f) m = (t : Tree) → IsGround structure.signature t → Holds structure f (with_name m x t)
Holds structure (Infinite x f) m = HasInfinitelyMany (λ t. IsGround structure.signature t × Holds structure f (with_name m x t))

-- all its trees are ground terms
abbrev pub IsGroundAssignment : Structure → Assignment → Type 0
IsGroundAssignment structure m = (a : Argument) → IsGround structure.signature (m a)

-- the ground terms that are written in the formula are these, in their order
abbrev pub GivesTerms : List Tree → Assignment → Type 0
GivesTerms terms m = (k : ℕ) (t : Tree) → slice_get terms k ≡ Some t → m (Ground k) ≡ t

-- a formula in which these terms are written is true of a system, or false of it, whichever ground terms its variables have;
-- for a closed formula it doesn't matter which. Where the signature has a constant and the terms are ground, no formula is both.
-- An index that the system doesn't have has no rules here; that a formula with one is refused is said by `answered` of fort_run.
abbrev pub IsTrueOf : System → List Tree → Formula → Type 0
IsTrueOf system terms f =
    (m : Assignment) → IsGroundAssignment (structure_of system) m → GivesTerms terms m → Holds (structure_of system) f m

abbrev pub IsFalseOf : System → List Tree → Formula → Type 0
IsFalseOf system terms f =
    (m : Assignment) → IsGroundAssignment (structure_of system) m → GivesTerms terms m → Holds (structure_of system) f m → ⊥

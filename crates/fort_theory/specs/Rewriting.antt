-- To believe: what a root step by rules is, one rule and one substitution by ground terms giving both ends; what a step, a reduction, a conversion, a parallel step and a normal form are, for any relation between trees in the place of the root step.
use Rattle.std.specs.Prelude.{◌≡◌, ◌≢◌, ℕ, List, [], ◌∷◌, ◌⊎◌, Some, Contains}
use Rattle.fort_theory.specs.Trees.{Tree, Trees, Node, Nil, More, subtree_at, replaced_at}
use Rattle.fort_theory.specs.Signatures.{Signature, IsGround}
use Rattle.fort_theory.specs.Sides.{Rule, System, at_index, Substitution, applied}

abbrev pub Relation : Type 1
Relation = Tree → Tree → Type 0

-- ---- root steps

pub record RootStep (signature : Signature) (rules : List Rule) (s t : Tree) : Type 0 where
  pub rule : Rule
  pub among : Contains rules rule
  pub substitution : Substitution
  pub by_ground : (v : ℕ) → IsGround signature (substitution v)
  pub left : s ≡ applied substitution rule.left
  pub right : t ≡ applied substitution rule.right
  pub left_grounded : IsGround signature s
  pub right_grounded : IsGround signature t

-- the root steps of a system at an index
abbrev pub RootStepAt : System → ℕ → Relation
RootStepAt system index = RootStep system.signature (at_index index system.rules)

-- ---- steps anywhere

-- at a position of s stands a redex, and t is s with a contractum of it there
pub record RewritesAt (root : Relation) (position : List ℕ) (s t : Tree) : Type 0 where
  pub redex : Tree
  pub contractum : Tree
  pub stands : subtree_at s position ≡ Some redex
  pub contracts : root redex contractum
  pub result : t ≡ replaced_at s position contractum

-- a step, at some position
abbrev pub Rewrites : Relation → Relation
Rewrites root s t = (position : List ℕ) × RewritesAt root position s t

-- a step at a position other than the root
abbrev pub RewritesBelow : Relation → Relation
RewritesBelow root s t = (position : List ℕ) × (position ≢ []) × RewritesAt root position s t

-- the terms from s to t, s itself left out, each in the relation with the next
abbrev pub Path : Relation → Tree → List Tree → Tree → Type 0
Path r s [] t = s ≡ t
Path r s (u ∷ us) t = r s u × Path r u us t

-- zero or one step
abbrev pub RewritesAtMostOnce : Relation → Relation
RewritesAtMostOnce root s t = (s ≡ t) ⊎ Rewrites root s t

-- a finite list of steps
abbrev pub Reduces : Relation → Relation
Reduces root s t = (us : List Tree) × Path (Rewrites root) s us t

-- a reduction, a step at the root, a reduction
abbrev pub ReducesThroughRoot : Relation → Relation
ReducesThroughRoot root s t = (u v : Tree) × Reduces root s u × root u v × Reduces root v t

-- at least one step
abbrev pub ReducesStrictly : Relation → Relation
ReducesStrictly root s t = (u : Tree) × (us : List Tree) × Path (Rewrites root) s (u ∷ us) t

-- a step from one of the two to the other
abbrev pub RewritesEitherWay : Relation → Relation
RewritesEitherWay root s t = Rewrites root s t ⊎ Rewrites root t s

-- a finite list of steps, each taken in either direction
abbrev pub Converts : Relation → Relation
Converts root s t = (us : List Tree) × Path (RewritesEitherWay root) s us t

-- the least relation that has each root step, and two terms with one root symbol whose children are in it one by one
mutual
  pub data RewritesInParallel (root : Relation) : Tree → Tree → Type 0 where
    AtRoot : {s t : Tree} → root s t → RewritesInParallel root s t
    Inside : {f : ℕ} {ss ts : Trees} → AllRewriteInParallel root ss ts → RewritesInParallel root (Node f ss) (Node f ts)

  pub data AllRewriteInParallel (root : Relation) : Trees → Trees → Type 0 where
    End : AllRewriteInParallel root Nil Nil
    Both : {s t : Tree} {ss ts : Trees} → RewritesInParallel root s t → AllRewriteInParallel root ss ts
        → AllRewriteInParallel root (More s ss) (More t ts)

-- no step starts here
abbrev pub IsNormalForm : Relation → Tree → Type 0
IsNormalForm root s = (t : Tree) → Rewrites root s t → ⊥

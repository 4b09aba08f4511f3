-- Structures over one signature whose root steps relate the same trees have the same core formulas true.
use Rattle.std.specs.Prelude.{◌↔◌, ℕ, All}
use Rattle.fort_theory.specs.Signatures.{Signature, HasConstant}
use Rattle.fort_theory.specs.Sides.{at_index, System, IsLinearSeparated}
use Rattle.fort_theory.specs.Patterns.{pattern_system}
use Rattle.fort_theory.specs.Rewriting.{Relation, RootStepAt}
use Rattle.fort_theory.specs.PatternSteps.{PatternStepAt}
use Rattle.fort_theory.proofs.IndexLaws.{at_index-map, All-at_index}
use Rattle.fort_theory.proofs.WithinRoots.{Within, Rewrites-within, RewritesBelow-within, Reduces-within, ReducesStrictly-within, Converts-within, RewritesInParallel-within, IsNormalForm-within}
use Rattle.fort_theory.proofs.PatternSteps.{PatternStep-from_RootStep, RootStep-from_PatternStep}
use Rattle.fort_theory.specs.Structures.{Structure, structure_of}
use Rattle.fort_theory.specs.PatternStructures.{pattern_structure}
use Rattle.fort_theory.specs.Expressions.{Means}
use Rattle.fort_theory.proofs.MeaningLaws.{Means-within, HoldsInContext-within}
use Rattle.fort_theory.proofs.ConnectedLaws.{Connected-same}
use Rattle.fort_theory.specs.Cores.{Rel, Eq, Root, Below, Step, Par, Plus, Star, Conv, Atom, Related, InContext, Normal, IsTerm, Core, True, Leaf, Not, Binary, Exists, Infinite}
use Rattle.fort_theory.specs.CoreTruth.{Places, with_number, RelatesBy, AtomHolds, IsMetBy}

-- a signature with root steps
abbrev pub over : Signature → (ℕ → Relation) → Structure
over signature root = record { signature = signature; root = root }

RelatesBy-same_root : (r q : Relation) → Within r q → (rel : Rel) → Within (RelatesBy r rel) (RelatesBy q rel)
RelatesBy-same_root r q w Eq s t h = h
RelatesBy-same_root r q w Root s t h = w s t h
RelatesBy-same_root r q w Below s t h = RewritesBelow-within r q w s t h
RelatesBy-same_root r q w Step s t h = Rewrites-within r q w s t h
RelatesBy-same_root r q w Par s t h = RewritesInParallel-within r q w s t h
RelatesBy-same_root r q w Plus s t h = ReducesStrictly-within r q w s t h
RelatesBy-same_root r q w Star s t h = Reduces-within r q w s t h
RelatesBy-same_root r q w Conv s t h = Converts-within r q w s t h

AtomHolds-same_root : (signature : Signature) (r q : ℕ → Relation) → ((i : ℕ) → Within (r i) (q i)) → ((i : ℕ) → Within (q i) (r i))
    → (a : Atom) (v : Places) → AtomHolds (over signature r) a v → AtomHolds (over signature q) a v
AtomHolds-same_root signature r q w back (Related rel i x y) v h = λ no. h (λ k. no (RelatesBy-same_root (r i) (q i) (w i) rel (v x) (v y) k))
AtomHolds-same_root signature r q w back (InContext e number place x y) v h =
    λ no. h (λ k. no (HoldsInContext-within (Means r e) (Means q e) (Means-within r q w e) number place (v x) (v y) k))
AtomHolds-same_root signature r q w back (Normal i x) v h = IsNormalForm-within (q i) (r i) (back i) (v x) h
AtomHolds-same_root signature r q w back (IsTerm x t) v h = h

-- by recursion on the formula, both ways at once: a negation turns the direction
pub IsMetBy-same_root : (signature : Signature) (r q : ℕ → Relation) → ((i : ℕ) → Within (r i) (q i)) → ((i : ℕ) → Within (q i) (r i))
    → (f : Core) (v : Places) → IsMetBy (over signature r) f v ↔ IsMetBy (over signature q) f v
IsMetBy-same_root signature r q w back True v = ((λ h. h), (λ h. h))
IsMetBy-same_root signature r q w back (Leaf a) v = (AtomHolds-same_root signature r q w back a v, AtomHolds-same_root signature q r back w a v)
IsMetBy-same_root signature r q w back (Not f) v =
    let k = IsMetBy-same_root signature r q w back f v in
    ((λ no h. no (k.1 h)), (λ no h. no (k.0 h)))
IsMetBy-same_root signature r q w back (Binary op f g) v =
    Connected-same op (IsMetBy-same_root signature r q w back f v) (IsMetBy-same_root signature r q w back g v)
IsMetBy-same_root signature r q w back (Exists n f) v = (
  (λ h none. h (λ t k. none t (k.0, (IsMetBy-same_root signature r q w back f (with_number v n t)).0 k.1))),
  (λ h none. h (λ t k. none t (k.0, (IsMetBy-same_root signature r q w back f (with_number v n t)).1 k.1))),
)
IsMetBy-same_root signature r q w back (Infinite n f) v = (
  (λ h ts none. h ts (λ t k. none t (k.0, (k.1.0, (IsMetBy-same_root signature r q w back f (with_number v n t)).0 k.1.1)))),
  (λ h ts none. h ts (λ t k. none t (k.0, (k.1.0, (IsMetBy-same_root signature r q w back f (with_number v n t)).1 k.1.1)))),
)

-- Result: truth of core formulas by rules and by the rules' patterns
pub IsMetBy-by_patterns : (system : System) → HasConstant system.signature → All (All IsLinearSeparated) system.rules → (f : Core) (v : Places)
    → IsMetBy (structure_of system) f v ↔ IsMetBy (pattern_structure (pattern_system system)) f v
IsMetBy-by_patterns system constant apart =
    IsMetBy-same_root system.signature (RootStepAt system) (PatternStepAt (pattern_system system))
    (λ i s t h. rw at_index-map (PatternStep-from_RootStep system.signature (at_index i system.rules) s t h))
    (λ i s t h. RootStep-from_PatternStep system.signature (at_index i system.rules) constant (All-at_index IsLinearSeparated i system.rules apart) s t
    (rw at_index-map at h))

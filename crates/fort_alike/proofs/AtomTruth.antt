-- A label of an atom is accepted exactly where the atom is true of the assignment whose tuple it labels.
use Rattle.std.specs.Prelude.{◌≡◌, ◌↔◌, ℕ, zero, suc, ◌<◌, List, [], ◌∷◌, length, All, None, Some, get_or, Contains, Bool, true, false, Decides, refl}
use Rattle.std.proofs.Common.{sym, ap, subst, arith, true≢false}
use Rattle.std.proofs.lemmas.List.{length-map}
use Rattle.fort_theory.specs.Trees.{Tree}
use Rattle.fort_theory.specs.Signatures.{Signature, IsGround, HasConstant}
use Rattle.fort_theory.specs.Sides.{at_index, System, IsLinearSeparated}
use Rattle.fort_theory.specs.Patterns.{Pattern, Pair, PatternSystem, pattern_system}
use Rattle.fort_theory.specs.PatternSteps.{PatternStep, PatternStepAt}
use Rattle.fort_theory.specs.Rewriting.{Relation, IsNormalForm, RootStepAt}
use Rattle.fort_theory.proofs.IndexLaws.{at_index-map, All-at_index}
use Rattle.fort_theory.proofs.PatternSteps.{PatternStep-from_RootStep, RootStep-from_PatternStep}
use Rattle.fort_theory.proofs.WithinRoots.{Within, Rewrites-within, RewritesBelow-within, Reduces-within, ReducesStrictly-within, Converts-within, RewritesInParallel-within, IsNormalForm-within}
use Rattle.fort_theory.specs.Logic.{Surely}
use Rattle.fort_theory.specs.Structures.{structure_of}
use Rattle.fort_theory.specs.Cores.{Rel, Eq, Root, Below, Step, Par, Plus, Star, Conv, Leaf, Related, Normal}
use Rattle.fort_theory.specs.CoreTruth.{Places, RelatesBy, IsMetBy}
use Rattle.fort_theory.specs.Parts as parts
use Rattle.fort_tables.specs.Tuples.{IsPresent, IsTuple, IsFull, AreGroundColumns}
use Rattle.fort_tables.specs.LabelRules.{label_of}
use Rattle.fort_alike.specs.Atoms.{OfTwo, HoldsBy, kind_for, pairs_for, relation_atom, normal_atom}
use Rattle.fort_alike.specs.ListedAtoms.{ListedAtom, listed, IsListedAtom}
use Rattle.fort_alike.specs.AtomRules.{atom_rule, atom_accepts}
use Rattle.fort_alike.specs.ClosureTests.{IsClosure}
use Rattle.fort_alike.specs.AssignedTuples.{tuple_of}
use Rattle.fort_alike.proofs.Bits.{Decides-iff}
use Rattle.fort_alike.proofs.NodeMarks.{iff_same}
use Rattle.fort_alike.proofs.AtomMeans.{Decides-atom_accepts}
use Rattle.fort_alike.proofs.AtomPlaces.{place_of, ArePlaces-columns}
use Rattle.fort_alike.proofs.ClosureTestLaws.{IsClosure-unread}
use Rattle.fort_alike.proofs.BothWays.{Reduces-both_ways}

-- what the atom says is the relation of its name
pub Says-RelatesBy : (sig : Signature) (pairs : List Pair) (rel : Rel) (s t : Tree)
    → HoldsBy (PatternStep sig (pairs_for rel pairs)) (kind_for rel) s t ↔ RelatesBy (PatternStep sig pairs) rel s t
Says-RelatesBy sig pairs Eq s t = iff_same
Says-RelatesBy sig pairs Root s t = iff_same
Says-RelatesBy sig pairs Below s t = iff_same
Says-RelatesBy sig pairs Step s t = iff_same
Says-RelatesBy sig pairs Par s t = iff_same
Says-RelatesBy sig pairs Plus s t = iff_same
Says-RelatesBy sig pairs Star s t = iff_same
Says-RelatesBy sig pairs Conv s t = Reduces-both_ways sig pairs s t

RelatesBy-within : (r q : Relation) → Within r q → (rel : Rel) → Within (RelatesBy r rel) (RelatesBy q rel)
RelatesBy-within r q w Eq s t h = h
RelatesBy-within r q w Root s t h = w s t h
RelatesBy-within r q w Below s t h = RewritesBelow-within r q w s t h
RelatesBy-within r q w Step s t h = Rewrites-within r q w s t h
RelatesBy-within r q w Par s t h = RewritesInParallel-within r q w s t h
RelatesBy-within r q w Plus s t h = ReducesStrictly-within r q w s t h
RelatesBy-within r q w Star s t h = Reduces-within r q w s t h
RelatesBy-within r q w Conv s t h = Converts-within r q w s t h

-- the tuple of an assignment
AreGroundColumns-tuple_of : (sig : Signature) (v : Places) (ns : List ℕ) → ((n : ℕ) → Contains ns n → IsGround sig (v n)) → AreGroundColumns sig (tuple_of v ns)
AreGroundColumns-tuple_of sig v [] g = tt
AreGroundColumns-tuple_of sig v (n ∷ ns) g =
    (g n (0, omega arith, refl), AreGroundColumns-tuple_of sig v ns (λ m c. let k : c.0 < length ns = c.1 in g m (suc c.0, omega arith, c.2)))

IsPresent-tuple_of : (v : Places) (ns : List ℕ) → 0 < length ns → IsPresent (tuple_of v ns)
IsPresent-tuple_of v [] l = absurd (omega arith)
IsPresent-tuple_of v (n ∷ ns) l = tt

pub IsTuple-tuple_of : (sig : Signature) (v : Places) (ns : List ℕ) → 0 < length ns → ((n : ℕ) → Contains ns n → IsGround sig (v n))
    → IsTuple sig (length ns) (tuple_of v ns)
IsTuple-tuple_of sig v ns l g =
    record { width = length-map ns (λ n. Some (v n)); present = IsPresent-tuple_of v ns l; grounded = AreGroundColumns-tuple_of sig v ns g }

pub IsFull-tuple_of : (v : Places) (ns : List ℕ) → IsFull (tuple_of v ns)
IsFull-tuple_of v [] = tt
IsFull-tuple_of v (n ∷ ns) = IsFull-tuple_of v ns

pub get_or-tuple_of : (v : Places) (ns : List ℕ) (i x : ℕ) → i < length ns → get_or ns i 0 ≡ x → get_or (tuple_of v ns) i None ≡ Some (v x)
get_or-tuple_of v [] i x l e = absurd (omega arith)
get_or-tuple_of v (n ∷ ns) zero x l e = ap (λ k. Some (v k)) e
get_or-tuple_of v (n ∷ ns) (suc i) x l e = get_or-tuple_of v ns i x (omega arith) e

pub Decides-Surely : (b : Bool) {P : Type 0} → Decides b P → (b ≡ true) ↔ Surely P
Decides-Surely true d = ((λ e no. no (d.0 e)), (λ h. refl))
Decides-Surely false d = ((λ e. absurd (true≢false (sym e))), (λ h. absurd (h (λ p. true≢false (sym (d.1 p))))))

-- by the pairs of a system of patterns
module _ (system : PatternSystem) (index : ℕ) (lefts rights : List Pattern) (closure : Pattern → Pattern → Bool) where
  pub Decides-relation : (rel : Rel) (x y : ℕ) (columns : List ℕ) → parts.AreColumns (Leaf (Related rel index x y)) columns
      → IsListedAtom (listed (relation_atom system rel index x y columns) lefts rights)
      → IsClosure (listed (relation_atom system rel index x y columns) lefts rights) closure
      → (v : Places) → ((n : ℕ) → Contains columns n → IsGround system.signature (v n))
      → Decides (atom_accepts (listed (relation_atom system rel index x y columns) lefts rights)
      (label_of (atom_rule (listed (relation_atom system rel index x y columns) lefts rights) closure) (tuple_of v columns)))
      (RelatesBy (PatternStepAt system index) rel (v x) (v y))
  Decides-relation rel x y columns are is closes v g =
      let a : ListedAtom = listed (relation_atom system rel index x y columns) lefts rights in
      let places = ArePlaces-columns rel index x y columns are in
      let b = atom_accepts a (label_of (atom_rule a closure) (tuple_of v columns)) in
      let R : Relation = HoldsBy (PatternStep system.signature (pairs_for rel (at_index index system.rules))) (kind_for rel) in
      Decides-iff b (Says-RelatesBy system.signature (at_index index system.rules) rel (v x) (v y))
      (subst (λ z. Decides b (OfTwo R (Some (v x)) z)) (get_or-tuple_of v columns (place_of y columns) y places.second_within places.second_is)
      (subst (λ z. Decides b (OfTwo R z (get_or (tuple_of v columns) (place_of y columns) None)))
      (get_or-tuple_of v columns (place_of x columns) x places.first_within places.first_is)
      (Decides-atom_accepts a closure is closes (tuple_of v columns) (IsTuple-tuple_of system.signature v columns places.some g))))

pub Decides-normal : (system : PatternSystem) (index : ℕ) (lefts : List Pattern) (closure : Pattern → Pattern → Bool)
    → IsListedAtom (listed (normal_atom system index) lefts []) → (x : ℕ) (v : Places) → IsGround system.signature (v x)
    → Decides (atom_accepts (listed (normal_atom system index) lefts []) (label_of (atom_rule (listed (normal_atom system index) lefts []) closure) (tuple_of v (x ∷ []))))
    (IsNormalForm (PatternStepAt system index) (v x))
Decides-normal system index lefts closure is x v g =
    let a : ListedAtom = listed (normal_atom system index) lefts [] in
    Decides-atom_accepts a closure is (IsClosure-unread a closure refl) (tuple_of v (x ∷ [])) (record { width = refl; present = tt; grounded = (g, tt) })

-- by the rules themselves
module _ (system : System) (constant : HasConstant system.signature) (apart : All (All IsLinearSeparated) system.rules) (index : ℕ) where
  to_patterns : Within (RootStepAt system index) (PatternStepAt (pattern_system system) index)
  to_patterns s t h = rw at_index-map (PatternStep-from_RootStep system.signature (at_index index system.rules) s t h)

  from_patterns : Within (PatternStepAt (pattern_system system) index) (RootStepAt system index)
  from_patterns s t h =
      RootStep-from_PatternStep system.signature (at_index index system.rules) constant (All-at_index IsLinearSeparated index system.rules apart) s t
      (rw at_index-map at h)

  pub accepts_truth : (lefts rights : List Pattern) (closure : Pattern → Pattern → Bool) (rel : Rel) (x y : ℕ) (columns : List ℕ)
      → parts.AreColumns (Leaf (Related rel index x y)) columns
      → IsListedAtom (listed (relation_atom (pattern_system system) rel index x y columns) lefts rights)
      → IsClosure (listed (relation_atom (pattern_system system) rel index x y columns) lefts rights) closure
      → (v : Places) → ((n : ℕ) → Contains columns n → IsGround system.signature (v n))
      → (atom_accepts (listed (relation_atom (pattern_system system) rel index x y columns) lefts rights)
      (label_of (atom_rule (listed (relation_atom (pattern_system system) rel index x y columns) lefts rights) closure) (tuple_of v columns)) ≡ true)
      ↔ IsMetBy (structure_of system) (Leaf (Related rel index x y)) v
  accepts_truth lefts rights closure rel x y columns are is closes v g =
      let a : ListedAtom = listed (relation_atom (pattern_system system) rel index x y columns) lefts rights in
      let b = atom_accepts a (label_of (atom_rule a closure) (tuple_of v columns)) in
      Decides-Surely b (Decides-iff b (
        (λ h. RelatesBy-within (PatternStepAt (pattern_system system) index) (RootStepAt system index) from_patterns rel (v x) (v y) h),
        (λ h. RelatesBy-within (RootStepAt system index) (PatternStepAt (pattern_system system) index) to_patterns rel (v x) (v y) h),
      ) (Decides-relation (pattern_system system) index lefts rights closure rel x y columns are is closes v g))

  pub accepts_normal_truth : (lefts : List Pattern) (closure : Pattern → Pattern → Bool) → IsListedAtom (listed (normal_atom (pattern_system system) index) lefts [])
      → (x : ℕ) (v : Places) → IsGround system.signature (v x)
      → (atom_accepts (listed (normal_atom (pattern_system system) index) lefts [])
      (label_of (atom_rule (listed (normal_atom (pattern_system system) index) lefts []) closure) (tuple_of v (x ∷ []))) ≡ true)
      ↔ IsMetBy (structure_of system) (Leaf (Normal index x)) v
  accepts_normal_truth lefts closure is x v g =
      let d = Decides-normal (pattern_system system) index lefts closure is x v g in (
        (λ e. IsNormalForm-within (RootStepAt system index) (PatternStepAt (pattern_system system) index) to_patterns (v x) (d.0 e)),
        (λ h. d.1 (IsNormalForm-within (PatternStepAt (pattern_system system) index) (RootStepAt system index) from_patterns (v x) h)),
      )

-- A result, which no proof cites: what a table by an atom's labels tells: truth, and the cap.
use Rattle.std.specs.Prelude.{◌≡◌, ◌↔◌, ℕ, List, [], ◌∷◌, All, Contains, Bool, true, refl}
use Rattle.std.proofs.Common.{sym, ◌∙◌}
use Rattle.fort_theory.specs.Signatures.{IsGround, HasConstant}
use Rattle.fort_theory.specs.Sides.{System, IsLinearSeparated}
use Rattle.fort_theory.specs.Patterns.{Pattern, pattern_system}
use Rattle.fort_theory.specs.Structures.{structure_of}
use Rattle.fort_theory.specs.Cores.{Rel, Leaf, Related, Normal}
use Rattle.fort_theory.specs.CoreTruth.{Places, IsMetBy}
use Rattle.fort_theory.specs.Parts as parts
use Rattle.fort_tables.specs.Tuples.{Tuple, IsTuple, IsFull}
use Rattle.fort_tables.specs.Tables.{Table, state_of}
use Rattle.fort_tables.specs.Labels.{HasMoreLabels}
use Rattle.fort_tables.specs.LabelRules.{label_of}
use Rattle.fort_alike.specs.Atoms.{relation_atom, normal_atom}
use Rattle.fort_alike.specs.Alike.{Alike}
use Rattle.fort_alike.specs.UnlikeTuples.{IsOver}
use Rattle.fort_alike.proofs.OverLabels.{HasMoreLabels-IsOver}
use Rattle.fort_alike.specs.ListedAtoms.{ListedAtom, listed, IsListedAtom}
use Rattle.fort_alike.specs.AtomRules.{atom_rule, atom_accepts}
use Rattle.fort_alike.specs.ClosureTests.{IsClosure}
use Rattle.fort_alike.specs.AssignedTuples.{tuple_of}
use Rattle.fort_alike.proofs.AtomMeans.{labels_alike}
use Rattle.fort_alike.proofs.AtomPlaces.{ArePlaces-columns}
use Rattle.fort_alike.proofs.AtomTruth.{IsTuple-tuple_of, IsFull-tuple_of, accepts_truth, accepts_normal_truth}

-- more labels than the cap exactly where more tuples, no two of them alike
pub HasMoreLabels-atom : (a : ListedAtom) (closure : Pattern → Pattern → Bool) → IsListedAtom a → IsClosure a closure → (cap : ℕ)
    → HasMoreLabels a.atom.signature a.atom.columns (label_of (atom_rule a closure)) cap ↔ IsOver a.atom.signature a.atom.columns (Alike a.atom) cap
HasMoreLabels-atom a closure is closes cap =
    HasMoreLabels-IsOver a.atom.signature a.atom.columns (label_of (atom_rule a closure)) (Alike a.atom) (labels_alike a closure is closes) cap

moved : (b c : Bool) (P : Type 0) → b ≡ c → (c ≡ true) ↔ P → (b ≡ true) ↔ P
moved b c P e w = ((λ h. w.0 (sym e ∙ h)), (λ p. e ∙ w.1 p))

-- full tuples are accepted by their labels
abbrev pub AcceptsByLabels : ListedAtom → (Pattern → Pattern → Bool) → Table → Type 0
AcceptsByLabels a closure table =
    (t : Tuple) → IsTuple a.atom.signature a.atom.columns t → IsFull t
    → table.accepting (state_of table t) ≡ atom_accepts a (label_of (atom_rule a closure) t)

-- any such table, explored or checked, accepts the tuple of an assignment exactly where the atom is true
module _ (system : System) (constant : HasConstant system.signature) (apart : All (All IsLinearSeparated) system.rules) (index : ℕ)
    (closure : Pattern → Pattern → Bool) (table : Table) (v : Places) where
  pub table_truth : (lefts rights : List Pattern) (rel : Rel) (x y : ℕ) (columns : List ℕ) → parts.AreColumns (Leaf (Related rel index x y)) columns
      → IsListedAtom (listed (relation_atom (pattern_system system) rel index x y columns) lefts rights)
      → IsClosure (listed (relation_atom (pattern_system system) rel index x y columns) lefts rights) closure
      → AcceptsByLabels (listed (relation_atom (pattern_system system) rel index x y columns) lefts rights) closure table
      → ((n : ℕ) → Contains columns n → IsGround system.signature (v n))
      → (table.accepting (state_of table (tuple_of v columns)) ≡ true) ↔ IsMetBy (structure_of system) (Leaf (Related rel index x y)) v
  table_truth lefts rights rel x y columns are is closes full g =
      let a : ListedAtom = listed (relation_atom (pattern_system system) rel index x y columns) lefts rights in
      let tuple = IsTuple-tuple_of system.signature v columns (ArePlaces-columns rel index x y columns are).some g in
      moved (table.accepting (state_of table (tuple_of v columns))) (atom_accepts a (label_of (atom_rule a closure) (tuple_of v columns)))
      (IsMetBy (structure_of system) (Leaf (Related rel index x y)) v) (full (tuple_of v columns) tuple (IsFull-tuple_of v columns))
      (accepts_truth system constant apart index lefts rights closure rel x y columns are is closes v g)

  pub table_normal_truth : (lefts : List Pattern) (x : ℕ) → IsListedAtom (listed (normal_atom (pattern_system system) index) lefts [])
      → AcceptsByLabels (listed (normal_atom (pattern_system system) index) lefts []) closure table → IsGround system.signature (v x)
      → (table.accepting (state_of table (tuple_of v (x ∷ []))) ≡ true) ↔ IsMetBy (structure_of system) (Leaf (Normal index x)) v
  table_normal_truth lefts x is full g =
      let a : ListedAtom = listed (normal_atom (pattern_system system) index) lefts [] in
      moved (table.accepting (state_of table (tuple_of v (x ∷ [])))) (atom_accepts a (label_of (atom_rule a closure) (tuple_of v (x ∷ []))))
      (IsMetBy (structure_of system) (Leaf (Normal index x)) v)
      (full (tuple_of v (x ∷ [])) (record { width = refl; present = tt; grounded = (g, tt) }) tt)
      (accepts_normal_truth system constant apart index lefts closure is x v g)

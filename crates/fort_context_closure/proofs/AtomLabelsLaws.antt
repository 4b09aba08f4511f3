-- The labels of an atom tell apart what is not alike, and are accepted where the atom holds.
use Rattle.std.specs.Prelude.{◌≡◌, ◌↔◌, ℕ, List, [], ◌∷◌, All, true, Decides, refl}
use Rattle.std.proofs.Common.{sym, ap, subst, ◌∙◌}
use Rattle.fort_theory.specs.Sides.{at_index, System, IsLinearSeparated}
use Rattle.fort_theory.specs.Patterns.{PatternSystem, pattern_system}
use Rattle.fort_theory.proofs.Members.{Contains-head}
use Rattle.fort_theory.specs.PatternSteps.{PatternStepAt}
use Rattle.fort_theory.specs.Rewriting.{IsNormalForm}
use Rattle.fort_theory.specs.CoreTruth.{RelatesBy, IsMetBy}
use Rattle.fort_theory.specs.Structures.{structure_of}
use Rattle.fort_theory.specs.Cores.{Rel, Leaf, Related, Normal}
use Rattle.fort_theory.specs.Parts.{AreColumns}
use Rattle.fort_tables.specs.Tuples.{Tuple}
use Rattle.fort_tables.specs.LabelRules.{label_of}
use Rattle.fort_alike.specs.Atoms.{Atom, IsTrueOfTuple, relation_atom, normal_atom}
use Rattle.fort_alike.specs.Alike.{Alike}
use Rattle.fort_alike.specs.ListedAtoms.{ListedAtom, listed}
use Rattle.fort_alike.specs.AtomRules.{atom_rule, atom_accepts}
use Rattle.fort_alike.specs.ClosureTests.{IsClosure}
use Rattle.fort_alike.specs.AssignedTuples.{tuple_of}
use Rattle.fort_alike.proofs.AtomMeans.{labels_alike, Decides-atom_accepts}
use Rattle.fort_alike.proofs.AtomTruth.{Decides-relation, Decides-normal, accepts_truth, accepts_normal_truth}
use Rattle.fort_alike.proofs.ClosureTestLaws.{IsClosure-unread}
use Rattle.fort_context_closure.specs.PlainAtoms.{no_closure, signed, IsAtomOf, IsNormalAtomOf, IsRelationAtomOf}
use Rattle.fort_context_closure.specs.ClosedAtoms.{ClosedAtom, test_of}
use Rattle.fort_context_closure.specs.AtomLabelsView.{label_by, accepted_by, TellsAlike, AcceptsTrue, AcceptsRelated, AcceptsNormal, AcceptsMet}
use Rattle.fort_context_closure.specs.declared.atom_labels.AtomLabels.TheVariants.{Relation, Normal}
use Rattle.fort_context_closure.proofs.NormalLaws.{normal-label}

-- relations
module _ (atom : Atom) (c : ClosedAtom) (h : IsAtomOf atom c.atom) (closes : IsClosure (listed atom c.atom.lefts c.atom.rights) (test_of c)) where
  abbrev whole : ListedAtom
  whole = listed atom c.atom.lefts c.atom.rights

  signed_is : signed atom.signature c.atom ≡ whole
  signed_is = ap (λ (z : Atom). signed atom.signature (listed z c.atom.lefts c.atom.rights)) h.same

  accepts-same : (t : Tuple)
      → accepted_by atom.signature (Relation c) (label_by atom.signature (Relation c) t) ≡ atom_accepts whole (label_of (atom_rule whole (test_of c)) t)
  accepts-same t = ap (λ (a : ListedAtom). atom_accepts a (label_of (atom_rule a (test_of c)) t)) signed_is

  pub TellsAlike-relation : TellsAlike atom.signature atom (Relation c)
  TellsAlike-relation t u ti ui =
      subst (λ (a : ListedAtom). (label_of (atom_rule a (test_of c)) t ≡ label_of (atom_rule a (test_of c)) u) ↔ Alike atom t u) (sym signed_is)
      (labels_alike whole (test_of c) h.is_listed closes t u ti ui)

  pub AcceptsTrue-relation : AcceptsTrue atom.signature atom (Relation c)
  AcceptsTrue-relation t ti =
      subst (λ b. Decides b (IsTrueOfTuple atom t)) (sym (accepts-same t)) (Decides-atom_accepts whole (test_of c) h.is_listed closes t ti)

pub AcceptsRelated-relation : (system : PatternSystem) (rel : Rel) (index x y : ℕ) (columns : List ℕ) → AreColumns (Leaf (Related rel index x y)) columns
    → (c : ClosedAtom) → IsRelationAtomOf system rel index x y c → AcceptsRelated system rel index x y columns (Relation c)
AcceptsRelated-relation system rel index x y columns are c made v g =
    let atom = relation_atom system rel index x y columns in
    let h = (made columns are).0 in
    let closes = (made columns are).1 in
    subst (λ b. Decides b (RelatesBy (PatternStepAt system index) rel (v x) (v y))) (sym (accepts-same atom c h closes (tuple_of v columns)))
    (Decides-relation system index c.atom.lefts c.atom.rights (test_of c) rel x y columns are h.is_listed closes v g)

pub AcceptsMet-relation : (s : System) → All (All IsLinearSeparated) s.rules → (system : PatternSystem) → system ≡ pattern_system s
    → (rel : Rel) (index x y : ℕ) (columns : List ℕ) → AreColumns (Leaf (Related rel index x y)) columns
    → (c : ClosedAtom) → IsRelationAtomOf system rel index x y c → AcceptsMet s (Leaf (Related rel index x y)) columns (Relation c)
AcceptsMet-relation s apart system same rel index x y columns are c made v g =
    let atom = relation_atom (pattern_system s) rel index x y columns in
    let whole : IsRelationAtomOf (pattern_system s) rel index x y c = subst (λ (p : PatternSystem). IsRelationAtomOf p rel index x y c) same made in
    let h = (whole columns are).0 in
    let closes = (whole columns are).1 in
    subst (λ b. (b ≡ true) ↔ IsMetBy (structure_of s) (Leaf (Related rel index x y)) v) (sym (accepts-same atom c h closes (tuple_of v columns)))
    (accepts_truth s h.is_listed.constant apart index c.atom.lefts c.atom.rights (test_of c) rel x y columns are h.is_listed closes v g)

-- normal forms
module _ (system : PatternSystem) (index : ℕ) (a : ListedAtom) (h : IsNormalAtomOf system index a) where
  abbrev normal_whole : ListedAtom
  normal_whole = listed (normal_atom system index) a.lefts []

  normal-same : (t : Tuple) → label_by system.signature (Normal a) t ≡ label_of (atom_rule normal_whole no_closure) t
  normal-same t =
      ap (λ z. label_of (atom_rule (signed system.signature z) no_closure) t) h.same
      ∙ normal-label system.signature system.signature a.atom.pairs (at_index index system.rules) a.lefts h.left_sides t

  normal-accepts : (t : Tuple)
      → accepted_by system.signature (Normal a) (label_by system.signature (Normal a) t) ≡ atom_accepts normal_whole (label_of (atom_rule normal_whole no_closure) t)
  normal-accepts t =
      ap (λ z. atom_accepts (signed system.signature z) (label_by system.signature (Normal a) t)) h.same ∙ ap (atom_accepts normal_whole) (normal-same t)

  pub TellsAlike-normal : TellsAlike system.signature (normal_atom system index) (Normal a)
  TellsAlike-normal t u ti ui =
      let both = labels_alike normal_whole no_closure h.is_listed (IsClosure-unread normal_whole no_closure refl) t u ti ui in
      ((λ e. both.0 (sym (normal-same t) ∙ (e ∙ normal-same u))), (λ k. normal-same t ∙ (both.1 k ∙ sym (normal-same u))))

  pub AcceptsTrue-normal : AcceptsTrue system.signature (normal_atom system index) (Normal a)
  AcceptsTrue-normal t ti =
      subst (λ b. Decides b (IsTrueOfTuple (normal_atom system index) t)) (sym (normal-accepts t))
      (Decides-atom_accepts normal_whole no_closure h.is_listed (IsClosure-unread normal_whole no_closure refl) t ti)

  pub AcceptsNormal-normal : (x : ℕ) → AcceptsNormal system index x (Normal a)
  AcceptsNormal-normal x v g =
      subst (λ b. Decides b (IsNormalForm (PatternStepAt system index) (v x))) (sym (normal-accepts (tuple_of v (x ∷ [])))) (Decides-normal system index a.lefts no_closure h.is_listed x v g)

pub AcceptsMet-normal : (s : System) → All (All IsLinearSeparated) s.rules → (system : PatternSystem) → system ≡ pattern_system s
    → (index : ℕ) (a : ListedAtom) → IsNormalAtomOf system index a → (x : ℕ) → AcceptsMet s (Leaf (Normal index x)) (x ∷ []) (Normal a)
AcceptsMet-normal s apart system same index a made x v g =
    let h : IsNormalAtomOf (pattern_system s) index a = subst (λ (p : PatternSystem). IsNormalAtomOf p index a) same made in
    subst (λ b. (b ≡ true) ↔ IsMetBy (structure_of s) (Leaf (Normal index x)) v) (sym (normal-accepts (pattern_system s) index a h (tuple_of v (x ∷ []))))
    (accepts_normal_truth s h.is_listed.constant apart index a.lefts no_closure h.is_listed x v (g x (Contains-head x [])))

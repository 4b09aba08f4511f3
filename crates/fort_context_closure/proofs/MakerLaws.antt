-- What is made of the rules of a system's index is the atom of that index.
use Rattle.std.specs.Prelude.{◌≡◌, ℕ, List, [], map, length, refl}
use Rattle.std.proofs.Common.{sym, subst, ◌∙◌, arith}
use Rattle.fort_theory.specs.Patterns.{Pattern, Pair, PatternSystem, IsSystem}
use Rattle.fort_theory.specs.PatternOrder.{AreSubpatternsInOrder}
use Rattle.fort_theory.specs.Sides.{at_index}
use Rattle.fort_theory.proofs.Members.{Contains-none}
use Rattle.fort_theory.specs.Cores.{Rel, Leaf, Related}
use Rattle.fort_terms.specs.PatternView.{as_pair, as_pattern}
use Rattle.fort_theory.specs.Parts.{AreColumns}
use Rattle.fort_alike.specs.Atoms.{Atom, kind_for, pairs_for, relation_atom}
use Rattle.fort_alike.specs.ListedAtoms.{ListedAtom, listed, IsListedAtom}
use Rattle.fort_alike.specs.ClosureTests.{IsClosure, closure_test}
use Rattle.fort_alike.proofs.ClosureTestLaws.{IsClosure-listed}
use Rattle.fort_alike.proofs.SystemAtoms.{IsListedAtom-relation}
use Rattle.fort_findings.specs.declared.closure.ClosureEntry.{ClosureEntry}
use Rattle.fort_context_closure.specs.PlainAtoms.{IsAtomOf, IsOfRules, IsRelationAtomOf, IsByPairs}
use Rattle.fort_context_closure.specs.ClosedAtoms.{ClosedAtom, ListsPasses, numbers_of}
use Rattle.fort_context_closure.specs.declared.rule_list.RuleList.{RuleList}
use Rattle.fort_context_closure.specs.RuleLists.{ListsRules}
use Rattle.fort_context_closure.proofs.ClosureLaws.{ListsClosure-passes}

pub AreSubpatternsInOrder-none : AreSubpatternsInOrder [] []
AreSubpatternsInOrder-none = record {
  same = λ p. ((λ c. absurd (Contains-none p c)), (λ w. absurd (Contains-none w.0 w.1)));
  ordered = λ i j l m. absurd (omega arith);
}

pub relation-made : (system : PatternSystem) → IsSystem system → (rel : Rel) (index x y : ℕ) (pairs : List Pair) (lefts rights : List Pattern) (a : ListedAtom)
    → pairs ≡ pairs_for rel (at_index index system.rules)
    → AreSubpatternsInOrder (map (λ (pair : Pair). pair.0) pairs) lefts → AreSubpatternsInOrder (map (λ (pair : Pair). pair.1) pairs) rights
    → IsOfRules rel x y pairs lefts rights a → (columns : List ℕ) → AreColumns (Leaf (Related rel index x y)) columns
    → IsAtomOf (relation_atom system rel index x y columns) a
relation-made system is rel index x y pairs lefts rights a e l r h columns are = record {
  same = h.same index columns are ∙ (λ i. record {
    signature = [];
    columns = length columns;
    first = (relation_atom system rel index x y columns).first;
    second = (relation_atom system rel index x y columns).second;
    kind = kind_for rel;
    pairs = e i;
  });
  is_listed =
      subst (λ (ps : List Pattern). IsListedAtom (listed (relation_atom system rel index x y columns) ps a.rights)) (sym h.lefts_are)
      (subst (λ (ps : List Pattern). IsListedAtom (listed (relation_atom system rel index x y columns) lefts ps)) (sym h.rights_are)
      (IsListedAtom-relation system is index rel x y columns are lefts rights
      (subst (λ (ps : List Pair). AreSubpatternsInOrder (map (λ (pair : Pair). pair.0) ps) lefts) e l)
      (subst (λ (ps : List Pair). AreSubpatternsInOrder (map (λ (pair : Pair). pair.1) ps) rights) e r)));
}

-- by its own rules
pub ListsRules-own : (pairs : List Pair) (list : RuleList) → ListsRules pairs list → ListsRules (map as_pair list.rules.items) list
ListsRules-own pairs list h = subst (λ (ps : List Pair). ListsRules ps list) (sym h.rules) h

-- with pairs that are handed in
pub relation-by_pairs : (system : PatternSystem) (rel : Rel) (index x y : ℕ) (list : RuleList) (es : List ClosureEntry) (c : ClosedAtom)
    → ListsRules (pairs_for rel (at_index index system.rules)) list
    → IsOfRules rel x y (map as_pair list.rules.items) (map as_pattern list.lefts.items) (map as_pattern list.rights.items) c.atom → c.entries ≡ es
    → IsByPairs system rel index x y es c
relation-by_pairs system rel index x y list es c lists made same =
    let pairs : List Pair = pairs_for rel (at_index index system.rules) in
    let own : IsOfRules rel x y pairs (map as_pattern list.lefts.items) (map as_pattern list.rights.items) c.atom =
    subst (λ (ps : List Pair). IsOfRules rel x y ps (map as_pattern list.lefts.items) (map as_pattern list.rights.items) c.atom) lists.rules made in
    record {
      rules = record { same = own.same; lefts_are = refl; rights_are = refl };
      left_order = subst (AreSubpatternsInOrder (map (λ (pair : Pair). pair.0) pairs)) (sym made.lefts_are) lists.left_order;
      right_order = subst (AreSubpatternsInOrder (map (λ (pair : Pair). pair.1) pairs)) (sym made.rights_are) lists.right_order;
      entries_are = same;
    }

-- by the entries that passes make it is the atom of the index
pub relation-passed : (system : PatternSystem) → IsSystem system → (rel : Rel) (index x y : ℕ) (es : List ClosureEntry) (c : ClosedAtom)
    → IsByPairs system rel index x y es c → ListsPasses rel (at_index index system.rules) es → IsRelationAtomOf system rel index x y c
relation-passed system is rel index x y es c made passes columns are =
    let lefts = c.atom.lefts in
    let rights = c.atom.rights in
    let pairs : List Pair = pairs_for rel (at_index index system.rules) in
    let atom : Atom = relation_atom system rel index x y columns in
    let own : IsAtomOf atom c.atom = relation-made system is rel index x y pairs lefts rights c.atom refl made.left_order made.right_order made.rules columns are in
    let closes : IsClosure (listed atom lefts rights) (closure_test rights lefts (numbers_of es)) =
    IsClosure-listed (listed atom lefts rights) own.is_listed (numbers_of es)
    (λ e. let w = passes e in ListsClosure-passes atom lefts rights es own.is_listed made.left_order made.right_order w.0 w.1 w.2) in
    (own, subst (λ (xs : List ClosureEntry). IsClosure (listed atom lefts rights) (closure_test rights lefts (numbers_of xs))) (sym made.entries_are) closes)
